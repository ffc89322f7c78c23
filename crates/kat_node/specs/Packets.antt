-- Packets: state files of others that are delivered one after the other, and the operations that all of them have.
use Rattle.std.specs.Prelude.{List, [], ◌∷◌, max}
use Rattle.kat_type.specs.Lists.{IsOnce}
use Rattle.kat_type.specs.declared.done.Done.{Done}
use Rattle.kat_design.specs.Meanings.{are_kin}
use Rattle.kat_design.specs.Parts.{PartsKin, parts_joined}
use Rattle.kat_design.specs.declared.states.Part.{Part}
use Rattle.kat_node.specs.declared.nodes.Node.{Node}
use Rattle.kat_type.specs.Unions.{AreNested, united}

-- the operations of a list and of all packets
abbrev pub all_united : List Done → List (List Done) → List Done
all_united xs [] = xs
all_united xs (ys ∷ rest) = all_united (united xs ys) rest

-- each list of the packets has each operation once, and is nested with xs
abbrev pub EachNested : List Done → List (List Done) → Type 0
EachNested xs [] = Unit {0}
EachNested xs (ys ∷ rest) = IsOnce ys × AreNested xs ys × EachNested xs rest

-- the packets are nested with xs and with one another
abbrev pub AreAllNested : List Done → List (List Done) → Type 0
AreAllNested xs [] = Unit {0}
AreAllNested xs (ys ∷ rest) = IsOnce ys × AreNested xs ys × EachNested xs rest × AreAllNested ys rest

-- what a node keeps
abbrev pub parts_of : Node → List Part
parts_of node = node.replica.state.parts

-- a node with another one's state taken in: the greater clock, and the join of both states
abbrev pub with_packet : Node → Node → Node
with_packet node packet = record {
  number = node.number;
  replica = record { clock = max node.replica.clock packet.replica.clock; state = record { parts = parts_joined (parts_of node) (parts_of packet) } };
}

-- all packets, in their order
abbrev pub with_packets : Node → List Node → Node
with_packets node [] = node
with_packets node (packet ∷ packets) = with_packets (with_packet node packet) packets

-- each packet goes with what those before it leave
abbrev pub EachGoes : Node → List Node → Type 0
EachGoes node [] = Unit {0}
EachGoes node (packet ∷ packets) = are_kin PartsKin (parts_of node) (parts_of packet) × EachGoes (with_packet node packet) packets
