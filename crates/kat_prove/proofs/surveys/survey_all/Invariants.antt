use Rattle.kat_prove.specs.Trials.{AreSeen, IsSurvey, trial_form}
use Rattle.kat_prove.proofs.surveys.survey_all.Given as goal

abbrev pub invariant-loop-i : goal.invariant-loop-i
invariant-loop-i l = IsSurvey (trial_form l.trial) l.relation.conjuncts l.i l.survey × AreSeen (trial_form l.trial) l.relation.conjuncts l.seen
