use Rattle.kat_potential.proofs.Gaps.{two_terms}
use Rattle.kat_potential.proofs.differences.sides_of.Goals as goal

pub returns-in-2 : goal.returns-in-2
returns-in-2 c = two_terms c.args.terms.now _ _ c.args.nought c.both_sides.result c.in-2.is c.both_sides.ensures
