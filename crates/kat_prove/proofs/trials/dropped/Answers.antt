use Rattle.std.proofs.Common.{ap, ◌∙◌}
use Rattle.kat_prove.specs.Trials.{conjuncts_of, trial_form, without}
use Rattle.kat_prove.proofs.Dropping.{fewer_held}
use Rattle.kat_prove.proofs.trials.dropped.Goals as goal

pub returns : goal.returns
returns c =
    fewer_held (trial_form c.args.trial.now) c.args.kept (record { numbers = c.in_ok-numbers.numbers; relation = c.in_ok-relation.relation; drops = c.in_ok-drops.drops }) c.args.number c.args.drop
    c.requires.drop c.requires.number c.requires.among c.requires.holds
    (c.in_ok-numbers.ensures ∙ ap (without c.args.number) c.deref.ensures.value) (c.in_ok-relation.ensures ∙ ap (conjuncts_of c.args.trial.now.candidates.now) c.deref-2.ensures.value) c.in_ok-drops.ensures
