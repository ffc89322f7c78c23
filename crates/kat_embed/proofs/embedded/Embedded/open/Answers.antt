use Rattle.std.proofs.Common.{Some, refl, subst, sym}
use Rattle.kat_node.specs.Nodes.{AreSums}
use Rattle.kat_wire.specs.FileForms.{file_form}
use Rattle.kat_embed.proofs.Answering.{sound_opened, well_sorted_file}
use Rattle.kat_embed.proofs.embedded.Embedded.open.Goals as goal

pub new_node-requires-clause-sorted : goal.new_node-requires-clause-sorted
new_node-requires-clause-sorted c = well_sorted_file c.args.design.now (file_form c.in_ok-read.read.file) c.in_ok-read.ensures.texts.is_file

pub invariant_of-result : goal.invariant_of-result
invariant_of-result c =
    rw c.into_design-design.ensures (sound_opened c.args.ty.now c.args.design.now (record { ty = c.in_ok-read.read.ty; design = c.in_ok-read.read.file.design; node = c.in_ok-node.node; marks = Some c.new-marks.result }) (file_form c.in_ok-read.read.file)
    (record { texts = c.in_ok-read.ensures.texts; accepted = c.in-Ok.ensures.accepted }) refl c.in_ok-node.ensures.kept
    (subst AreSums (sym c.new-marks.ensures) (record { ascending = tt; each = tt })))
