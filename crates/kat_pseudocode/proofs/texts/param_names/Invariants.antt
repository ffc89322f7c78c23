use Rattle.std.proofs.Common.{◌≡◌, take}
use Rattle.kat_pseudocode.specs.Texts.{param_names}
use Rattle.kat_pseudocode.proofs.texts.param_names.Given as goal

abbrev pub invariant-loop-param : goal.invariant-loop-param
invariant-loop-param l = l.names.items ≡ param_names (take l.param-index l.params)
