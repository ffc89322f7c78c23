use Rattle.kat_prove.specs.Trials.{AreSeen, trial_form}
use Rattle.kat_prove.proofs.Seeing.{always}
use Rattle.kat_prove.proofs.surveys.find_once.Goals as goal

pub returns-in-Some-clause-seen : goal.returns-in-Some-clause-seen
returns-in-Some-clause-seen c = c.take.ensures.others (trial_form c.args.trial.now) c.args.relation.now.conjuncts c.requires.seen

pub returns-clause-seen : goal.returns-clause-seen
returns-clause-seen c =
    always c.find.result (AreSeen (trial_form c.args.trial.now) c.args.relation.now.conjuncts c.take.new.self)
    (c.take.ensures.others (trial_form c.args.trial.now) c.args.relation.now.conjuncts c.requires.seen)
