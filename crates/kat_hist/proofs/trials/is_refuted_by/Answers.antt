use Rattle.std.proofs.Common.{Bool}
use Rattle.std.specs.Prelude.{slice_get, Some, ◌≡◌}
use Rattle.std.specs.Bool.{Decides}
use Rattle.kat_design.specs.Denotations.{denotation_of}
use Rattle.kat_design.specs.Designs.{design_form}
use Rattle.kat_histories.specs.declared.histories.History.{History}
use Rattle.kat_histories.specs.Differing.{Differs}
use Rattle.kat_hist.specs.Trials.{is_refuted}
use Rattle.kat_type.specs.Types.{type_form}
use Rattle.kat_histories.proofs.Results.{if_ok}
use Rattle.kat_hist.proofs.Made.{small_asks, trial_decides, trial_fits}
use Rattle.kat_hist.proofs.trials.is_refuted_by.Goals as goal

pub is_refuted-requires-clause-asks : goal.is_refuted-requires-clause-asks
is_refuted-requires-clause-asks c = small_asks (type_form c.args.ty.now) c.args.asks.now c.requires.asks

pub is_refuted-requires-clause-fits : goal.is_refuted-requires-clause-fits
is_refuted-requires-clause-fits c =
    trial_fits (type_form c.args.ty.now) c.args.design.now.sig c.args.asks.now c.args.whole.now c.args.number c.args.trial.now c.as_slice.result.now c.histories_fit.ensures
    c.requires.agrees c.requires.whole c.requires.trial c.requires.within c.as_slice.ensures

pub returns : goal.returns
returns c =
    if_ok c.is_refuted.result
    (λ (found : Bool). found ≡ is_refuted (design_form c.args.design.now) (denotation_of (design_form c.args.design.now) c.as_slice.result.now) c.args.asks.now c.args.trial.now.answers)
    (λ (found : Bool). (history : History) → slice_get c.args.whole.now c.args.number ≡ Some history → Decides found (Differs (type_form c.args.ty.now) (design_form c.args.design.now) history))
    c.is_refuted.ensures
    (λ found e. trial_decides (type_form c.args.ty.now) (design_form c.args.design.now) c.args.asks.now c.args.whole.now c.args.number c.args.trial.now c.as_slice.result.now found
    c.histories_fit.ensures c.requires.agrees c.requires.whole c.requires.asks c.requires.trial c.as_slice.ensures e)
