use Rattle.kat_linear.proofs.Contradictions.{negation_met, not_both_met}
use Rattle.kat_linear.proofs.negations_oppose.Goals as goal

pub returns-clause-one : goal.returns-clause-one
returns-clause-one c = negation_met

pub returns-clause-not_both : goal.returns-clause-not_both
returns-clause-not_both c = not_both_met
