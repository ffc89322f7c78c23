use Rattle.kat_form.specs.Encodings.{encoding}
use Rattle.kat_prove.specs.Trials.{condition_facts, trial_form}
use Rattle.kat_prove.proofs.Carried.{carried_ok}
use Rattle.kat_prove.proofs.skims.carried_to.Goals as goal

pub returns : goal.returns
returns c =
    carried_ok c.carried.result (encoding c.in_ok-to.to) c.in_ok-to.to.numbers (condition_facts (trial_form c.args.trial.now) c.args.relation.now.conjuncts c.args.number)
    c.in_ok-to.ensures.is c.in_ok-to.ensures.numbers c.carried.ensures
