use Rattle.kat_design.specs.Designs.{design_form}
use Rattle.kat_bench.proofs.differences.design_for.Goals as goal

pub returns-clause-sorted : goal.returns-clause-sorted
returns-clause-sorted c = rw c.into_design.ensures (c.accepted_designs_are_well_sorted.ensures.sorted (design_form c.in-Ok.file.design) c.in-Ok.ensures.accepted)
