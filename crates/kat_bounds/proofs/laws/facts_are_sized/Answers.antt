use Rattle.kat_bounds.proofs.Sizes.{facts_are_fit, facts_are_sized, facts_are_walkable}
use Rattle.kat_bounds.proofs.laws.facts_are_sized.Goals as goal

pub returns-clause-sized : goal.returns-clause-sized
returns-clause-sized c = facts_are_sized

pub returns-clause-fit : goal.returns-clause-fit
returns-clause-fit c = facts_are_fit

pub returns-clause-walkable : goal.returns-clause-walkable
returns-clause-walkable c = facts_are_walkable
