use Rattle.std.proofs.Common.{[], ◌∷◌, subst}
use Rattle.kat_design.specs.Designs.{design_form}
use Rattle.kat_node.specs.Nodes.{IsNode}
use Rattle.kat_share_step.proofs.Taking.{node_taken}
use Rattle.kat_share_step.proofs.packets.with_node.Goals as goal

pub take_in-requires : goal.take_in-requires
take_in-requires c = record {
  kin = (c.packets_leave_nodes.ensures.go (design_form c.args.design.now) c.args.node (c.args.packet.now ∷ []) c.requires.sorted c.requires.node (c.requires.packet, tt)).0;
}

pub returns-clause-kept : goal.returns-clause-kept
returns-clause-kept c =
    subst (IsNode (design_form c.args.design.now)) (node_taken c.args.node c.args.packet.now c.take_in.new.self c.in_ok-take_in.ensures.joins c.in_ok-take_in.ensures.clock)
    (c.packets_leave_nodes.ensures.kept (design_form c.args.design.now) c.args.node (c.args.packet.now ∷ []) c.requires.sorted c.requires.node (c.requires.packet, tt))
