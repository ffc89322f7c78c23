use Rattle.std.proofs.Common.{◌∙◌, List, Option, ap, sym}
use Rattle.std.specs.Prelude.{slice_get}
use Rattle.kat_hist.specs.Trials.{IsTrialAt}
use Rattle.kat_hist.specs.declared.trials.Trial.{Trial}
use Rattle.kat_type.specs.Types.{type_form}
use Rattle.kat_hist.proofs.Made.{one_kept}
use Rattle.kat_hist.proofs.trials.differs_at.Goals as goal

pub is_refuted_by-requires-clause-trial : goal.is_refuted_by-requires-clause-trial
is_refuted_by-requires-clause-trial c =
    c.requires.kept.each c.args.number c.in-Some.trial.now (ap (λ (l : List (Option Trial)). slice_get l c.args.number) (sym c.deref.ensures.value) ∙ c.in-Some.ensures)

pub returns-clause-kept : goal.returns-clause-kept
returns-clause-kept c =
    one_kept (IsTrialAt (type_form c.args.ty.now) c.args.asks.now c.args.whole.now) c.args.kept.now.items c.keep.new.kept.items c.args.number c.in_ok-trial.trial c.requires.kept
    c.in_ok-trial.ensures c.keep.ensures
