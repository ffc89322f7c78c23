use Rattle.std.proofs.Common.{◌≡◌, ◌++◌, drop, map}
use Rattle.kat_type.specs.Types.{operation_form}
use Rattle.kat_candidate.specs.Parts.{constants_of}
use Rattle.kat_candidate.proofs.parts.constants_of.Given as goal

abbrev pub invariant-loop-position : goal.invariant-loop-position
invariant-loop-position l = l.constants.items ++ constants_of (map operation_form l.ops) (drop l.position-index l.positions) ≡ constants_of (map operation_form l.ops) l.positions
