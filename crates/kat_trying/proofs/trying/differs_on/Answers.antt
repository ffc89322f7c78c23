use Rattle.kat_design.specs.Designs.{design_form}
use Rattle.kat_trying.proofs.trying.differs_on.Goals as goal

pub differs-requires-clause-sorted : goal.differs-requires-clause-sorted
differs-requires-clause-sorted c = c.accepted_designs_are_well_sorted.ensures.sorted (design_form c.args.design.now) c.requires.accepted
