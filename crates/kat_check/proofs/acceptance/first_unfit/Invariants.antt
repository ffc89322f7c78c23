use Rattle.std.proofs.Common.{take}
use Rattle.kat_design.specs.Sorted.{EachHas}
use Rattle.kat_type.specs.Types.{type_form}
use Rattle.kat_wire.specs.FileForms.{file_form}
use Rattle.kat_check.specs.Acceptance.{Fits}
use Rattle.kat_check.proofs.acceptance.first_unfit.Given as goal

abbrev pub invariant-loop-i : goal.invariant-loop-i
invariant-loop-i l = EachHas (Fits (type_form l.ty) (file_form l.file)) (take l.i l.file.relation.conjuncts)
