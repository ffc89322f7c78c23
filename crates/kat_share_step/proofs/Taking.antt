-- A node after a state is merged, and a share after a packet.
use Rattle.std.proofs.Common.{◌≡◌, max, sym}
use Rattle.kat_design.specs.Parts.{parts_joined}
use Rattle.kat_lattice.specs.Tallies.{Sums, tallies_joined}
use Rattle.kat_node.specs.Packets.{parts_of, with_packet}
use Rattle.kat_node.specs.declared.nodes.Node.{Node}
use Rattle.kat_replica.specs.declared.replicas.Replica.{Replica}
use Rattle.kat_share.specs.declared.packets.SharePacket.{SharePacket}
use Rattle.kat_share.specs.declared.shares.Share.{Share}
use Rattle.kat_share_step.specs.Steps.{with_share_packet}

pub node_taken : (node packet : Node) (replica : Replica) → replica.state.parts ≡ parts_joined (parts_of node) (parts_of packet) → replica.clock ≡ max node.replica.clock packet.replica.clock
    → with_packet node packet ≡ record { number = node.number; replica = replica }
node_taken node packet replica joins clock = λ i. record { number = node.number; replica = record { clock = sym clock i; state = record { parts = sym joins i } } }

abbrev pub share_as : Node → Sums → Share
share_as node marks = record { node = node; marks = marks }

pub share_merged : (share : Share) (packet : SharePacket) (node : Node) (marks : Sums) → node ≡ with_packet share.node packet.told.node → marks ≡ tallies_joined share.marks packet.told.marks
    → share_as node marks ≡ with_share_packet share packet
share_merged share packet node marks e f = λ i. record { node = e i; marks = f i }
