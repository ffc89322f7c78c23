use Rattle.kat_design.specs.Designs.{design_form}
use Rattle.kat_rows_proofs.proofs.readings.is_well_sorted.Goals as goal

pub returns : goal.returns
returns c = c.accepted_designs_are_well_sorted.ensures.sorted (design_form c.args.design.now) c.requires.accepted
