-- Used inside only.
-- A node to which a packet adds nothing.
use Rattle.std.specs.Prelude.{◌≡◌, ◌≤◌}
use Rattle.kat_design.specs.Parts.{parts_joined}
use Rattle.kat_node.specs.Packets.{parts_of}
use Rattle.kat_node.specs.declared.nodes.Node.{Node}

-- its clock is no later, and the state is at or below that of the node
pub record IsAbsorbed (node packet : Node) : Type 0 where
  pub clock : packet.replica.clock ≤ node.replica.clock
  pub state : parts_joined (parts_of packet) (parts_of node) ≡ parts_of node
