use Rattle.std.proofs.Common.{subst, sym}
use Rattle.kat_design.specs.Designs.{design_form}
use Rattle.kat_node.specs.Nodes.{AreSums}
use Rattle.kat_share_step.proofs.Merging.{beyond}
use Rattle.kat_share_step.proofs.packets.packet_beyond.Goals as goal

pub returns-clause-packet : goal.returns-clause-packet
returns-clause-packet c = record {
  base = subst AreSums (sym c.in_ok-base.ensures) c.requires.known.marks;
  told = record { node = c.in_ok-node.ensures.node; marks = subst AreSums (sym c.in_ok-marks.ensures) c.requires.whole.marks };
}

pub returns-clause-made : goal.returns-clause-made
returns-clause-made c = record {
  base = c.in_ok-base.ensures;
  node =
      beyond (record { goes = c.nodes_go_with_designs.ensures.goes; turned = c.states_go_together.ensures.turned; chained = c.states_go_together.ensures.chained }) (design_form c.args.design.now)
      c.args.known.now.node c.args.whole.now.node c.in_ok-node.node c.requires.sorted c.requires.known.node c.requires.whole.node c.in_ok-node.ensures.made;
  marks = c.in_ok-marks.ensures;
}
