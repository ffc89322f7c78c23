use Rattle.std.proofs.Common.{◌<◌, ◌*◌, length}
use Rattle.kat_prove.specs.Trials.{condition_facts, trial_form}
use Rattle.kat_prove.proofs.Decided.{decided_ok}
use Rattle.kat_prove.proofs.surveys.decided.Goals as goal

pub returns : goal.returns
returns c =
    decided_ok c.decide-decision.result c.in_ok-encoded.encoded (condition_facts (trial_form c.args.trial.now) c.args.relation.now.conjuncts c.args.number) c.args.trial.now.effort (λ lines. length lines < 3 * c.args.trial.now.effort)
    c.in_ok-encoded.ensures.is c.in_ok-encoded.ensures.numbers c.decide-decision.ensures.walk c.decide-decision.ensures.refutes c.decide-decision.ensures.point c.decide-decision.ensures.narrow
