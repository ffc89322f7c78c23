use Rattle.std.proofs.Common.{ℕ, ◌-◌, List, map, ap, ◌∙◌}
use Rattle.kat_type.specs.Types.{operation_form}
use Rattle.kat_prove.specs.Trials.{place_at, trial_form}
use Rattle.kat_prove.proofs.Concluding.{is_stuck}
use Rattle.kat_prove.proofs.proving.concluded.Goals as goal

pub returns-in_ok-at-in-Some : goal.returns-in_ok-at-in-Some
returns-in_ok-at-in-Some c =
    is_stuck (trial_form c.args.trial.now) c.args.kept c.args.survey c.in-Some.stop c.in_ok-at-in-Some.at c.requires.holds c.requires.survey c.in-Some.is
    (c.in_ok-at-in-Some.ensures ∙ ap (λ (ns : List ℕ). place_at (map operation_form c.args.trial.now.ty.now.ops) ns (c.in-Some.stop.number - 1)) c.deref.ensures.value)
