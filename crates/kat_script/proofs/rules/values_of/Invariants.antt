use Rattle.std.proofs.Common.{◌≡◌, take}
use Rattle.std.specs.Prelude.{map}
use Rattle.kat_script.specs.Rules.{value_of}
use Rattle.kat_script.proofs.rules.values_of.Given as goal

abbrev pub invariant-loop-constant : goal.invariant-loop-constant
invariant-loop-constant l = l.values.items ≡ map value_of (take l.constant-index l.constants)
