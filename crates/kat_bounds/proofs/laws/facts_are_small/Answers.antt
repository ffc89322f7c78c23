use Rattle.kat_bounds.proofs.Sizes.{facts_are_small, facts_ascend, variables_are_few}
use Rattle.kat_bounds.proofs.laws.facts_are_small.Goals as goal

pub returns-clause-small : goal.returns-clause-small
returns-clause-small c = facts_are_small

pub returns-clause-ascending : goal.returns-clause-ascending
returns-clause-ascending c = facts_ascend

pub returns-clause-few : goal.returns-clause-few
returns-clause-few c = variables_are_few
