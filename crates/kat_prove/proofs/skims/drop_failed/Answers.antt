use Rattle.std.proofs.Common.{ℕ, ◌-◌, List, map, refl, sym, ap, ◌∙◌}
use Rattle.kat_type.specs.Types.{operation_form}
use Rattle.kat_candidate.specs.declared.places.Place1.TheVariants.{Start, Step}
use Rattle.kat_prove.specs.Trials.{place_at, trial_form}
use Rattle.kat_prove.proofs.Dropping.{may_drop}
use Rattle.kat_prove.proofs.skims.drop_failed.Goals as goal

pub dropped-requires-clause-drop : goal.dropped-requires-clause-drop
dropped-requires-clause-drop c =
    (may_drop (trial_form c.args.trial.now) c.args.kept c.args.number c.in-Start.conjunct (Start c.in-Start.conjunct) c.args.point c.requires.holds
    (sym c.in-Start.is ∙ c.in_ok-query.ensures ∙ ap (λ (ns : List ℕ). place_at (map operation_form c.args.trial.now.ty.now.ops) ns (c.args.number - 1)) c.deref.ensures.value) refl c.requires.decisive).0

pub dropped-requires-clause-among : goal.dropped-requires-clause-among
dropped-requires-clause-among c =
    (may_drop (trial_form c.args.trial.now) c.args.kept c.args.number c.in-Start.conjunct (Start c.in-Start.conjunct) c.args.point c.requires.holds
    (sym c.in-Start.is ∙ c.in_ok-query.ensures ∙ ap (λ (ns : List ℕ). place_at (map operation_form c.args.trial.now.ty.now.ops) ns (c.args.number - 1)) c.deref.ensures.value) refl c.requires.decisive).1

pub dropped-requires-in-Step-clause-drop : goal.dropped-requires-in-Step-clause-drop
dropped-requires-in-Step-clause-drop c =
    (may_drop (trial_form c.args.trial.now) c.args.kept c.args.number c.in-Step.conjunct (Step c.in-Step.op c.in-Step.conjunct) c.args.point c.requires.holds
    (sym c.in-Step.is ∙ c.in_ok-query.ensures ∙ ap (λ (ns : List ℕ). place_at (map operation_form c.args.trial.now.ty.now.ops) ns (c.args.number - 1)) c.deref.ensures.value) refl c.requires.decisive).0

pub dropped-requires-in-Step-clause-among : goal.dropped-requires-in-Step-clause-among
dropped-requires-in-Step-clause-among c =
    (may_drop (trial_form c.args.trial.now) c.args.kept c.args.number c.in-Step.conjunct (Step c.in-Step.op c.in-Step.conjunct) c.args.point c.requires.holds
    (sym c.in-Step.is ∙ c.in_ok-query.ensures ∙ ap (λ (ns : List ℕ). place_at (map operation_form c.args.trial.now.ty.now.ops) ns (c.args.number - 1)) c.deref.ensures.value) refl c.requires.decisive).1
