use Rattle.std.proofs.Common.{ap, ◌∙◌}
use Rattle.kat_prove.specs.Trials.{conjuncts_of, trial_form}
use Rattle.kat_prove.proofs.Dropping.{holds_first}
use Rattle.kat_prove.proofs.trials.all_kept.Goals as goal

pub returns : goal.returns
returns c =
    holds_first (trial_form c.args.trial.now) (record { numbers = c.in_ok-numbers.numbers; relation = c.in_ok-relation.relation; drops = c.new.result })
    c.new.ensures.items c.in_ok-numbers.ensures (c.in_ok-relation.ensures ∙ ap (conjuncts_of c.args.trial.now.candidates.now) c.deref.ensures.value)
