use Rattle.kat_design.specs.Designs.{design_form}
use Rattle.kat_histories.specs.Differing.{Differs}
use Rattle.kat_hist.proofs.Seeking.{NoneBefore}
use Rattle.kat_type.specs.Types.{type_form}
use Rattle.kat_hist.proofs.differing.first_among.Given as goal

abbrev pub invariant-loop-i : goal.invariant-loop-i
invariant-loop-i l = NoneBefore (Differs (type_form l.ty) (design_form l.design)) l.fn.whole l.i
