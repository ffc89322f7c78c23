use Rattle.kat_design.specs.Designs.{design_form}
use Rattle.kat_design.proofs.Accepted.{well_sorted}
use Rattle.kat_people_call.proofs.emitting.emit_texts.Goals as goal

pub emit_typed-requires-clause-sorted : goal.emit_typed-requires-clause-sorted
emit_typed-requires-clause-sorted g c = well_sorted (design_form c.in-Ok-read_file.file.design) c.in-Ok-read_file.ensures.accepted
