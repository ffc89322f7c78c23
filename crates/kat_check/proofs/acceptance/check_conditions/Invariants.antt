use Rattle.kat_type.specs.Types.{type_form}
use Rattle.kat_wire.specs.FileForms.{file_form}
use Rattle.kat_check.proofs.Checking.{ProvedSoFar}
use Rattle.kat_check.proofs.acceptance.check_conditions.Given as goal

abbrev pub invariant-loop-i : goal.invariant-loop-i
invariant-loop-i l = ProvedSoFar (type_form l.ty) (file_form l.file) l.i
