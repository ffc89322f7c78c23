use Rattle.std.proofs.Common.{ℕ, List, ◌++◌, ◌∙◌, ap}
use Rattle.kat_design.specs.Designs.{design_form}
use Rattle.kat_share.proofs.Lines.{packet_read}
use Rattle.kat_share.specs.MarksTexts.{marks_design, marks_node}
use Rattle.kat_share.proofs.packets.write_packet.Goals as goal

pub returns : goal.returns
returns c =
    packet_read (design_form c.args.design.now) c.in_ok-text.text.items c.in_ok-base.base.items c.in_ok-told.told.items c.args.packet.now.told.node c.args.packet.now.base c.args.packet.now.told.marks c.requires.base
    (c.nodes_go_with_designs.ensures.written marks_design (marks_node c.args.packet.now.told.node.number c.args.packet.now.told.node.replica.clock c.args.packet.now.base) c.requires.base) c.in_ok-base.ensures.text (c.in_ok-text.ensures ∙ ap (λ (t : List ℕ). c.in_ok-base.base.items ++ t) c.as_slice.ensures.value) c.in_ok-base.ensures.read c.in_ok-told.ensures.read
