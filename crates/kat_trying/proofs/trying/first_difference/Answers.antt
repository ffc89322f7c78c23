use Rattle.kat_design.specs.Designs.{design_form}
use Rattle.kat_trying.proofs.trying.first_difference.Goals as goal

pub first_difference-requires-clause-sorted : goal.first_difference-requires-clause-sorted
first_difference-requires-clause-sorted c = c.accepted_designs_are_well_sorted.ensures.sorted (design_form c.args.design.now) c.requires.accepted
