use Rattle.std.proofs.Common.{◌≡◌, ◌++◌, drop, map}
use Rattle.kat_type.specs.Types.{operation_form}
use Rattle.kat_candidate.specs.Parts.{constants_at}
use Rattle.kat_candidate.proofs.parts.push_constants.Given as goal

abbrev pub invariant-loop-digit : goal.invariant-loop-digit
invariant-loop-digit l = l.into.items ++ constants_at (map operation_form l.ops) l.position (drop l.digit-index l.digits) ≡ l.fn.into.items ++ constants_at (map operation_form l.ops) l.position l.digits
