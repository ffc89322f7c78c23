use Rattle.kat_design.specs.Designs.{design_form}
use Rattle.kat_histories.specs.Differing.{Differs}
use Rattle.kat_hist.specs.Trials.{AreTrials}
use Rattle.kat_hist.proofs.Seeking.{NoneBefore}
use Rattle.kat_type.specs.Types.{type_form}
use Rattle.kat_hist.proofs.trials.first_among.Given as goal

abbrev pub invariant-trying : goal.invariant-trying
invariant-trying l =
    NoneBefore (Differs (type_form l.ty) (design_form l.design)) l.whole l.number × AreTrials (type_form l.ty) l.asks l.whole l.kept.items
