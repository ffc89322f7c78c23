use Rattle.kat_prove.specs.Trials.{condition_facts, trial_form}
use Rattle.kat_prove.proofs.Surveying.{is_found}
use Rattle.kat_prove.proofs.surveys.find.Goals as goal

pub returns : goal.returns
returns c =
    is_found (condition_facts (trial_form c.args.trial.now) c.args.relation.now.conjuncts c.args.number) c.args.trial.now.effort
    c.in_ok-decision.decision c.sorted.result c.in_ok-decision.ensures c.sorted.ensures
