use Rattle.std.proofs.Common.{List, subst, sym}
use Rattle.kat_design.specs.Designs.{design_form}
use Rattle.kat_node.specs.Nodes.{IsNode}
use Rattle.kat_node.specs.Packets.{EachGoes, with_packets}
use Rattle.kat_node.specs.declared.nodes.Node.{Node}
use Rattle.kat_node_texts.proofs.writing.step_text.Goals as goal

pub united-requires : goal.united-requires
united-requires c =
    subst (λ (packets : List Node). EachGoes c.args.files.node packets) (sym c.as_slice.ensures)
    (c.packets_leave_nodes.ensures.go (design_form c.args.design.now) c.args.files.node c.args.files.packets c.requires.sorted c.requires.of.node c.requires.of.packets)

pub stepped-requires-clause-node : goal.stepped-requires-clause-node
stepped-requires-clause-node c =
    subst (IsNode (design_form c.args.design.now)) (sym c.in_ok-node.ensures)
    (subst (λ (packets : List Node). IsNode (design_form c.args.design.now) (with_packets c.args.files.node packets)) (sym c.as_slice.ensures)
    (c.packets_leave_nodes.ensures.kept (design_form c.args.design.now) c.args.files.node c.args.files.packets c.requires.sorted c.requires.of.node c.requires.of.packets))

pub write_node-requires : goal.write_node-requires
write_node-requires c = c.nodes_go_with_designs.ensures.written (design_form c.args.design.now) c.in_ok-after.after c.in_ok-after.ensures.kept
