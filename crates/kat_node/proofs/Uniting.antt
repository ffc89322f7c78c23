-- A node with the states of others taken in is one of the design, and has what all of them did.
use Rattle.std.proofs.Common.{◌≡◌, ◌^◌, ◌≤◌, List, [], ◌∷◌, map, sym, ap₂, ◌∙◌, subst}
use Rattle.std.specs.Cmp.{IsTotalOrder}
use Rattle.kat_type.specs.Lists.{IsOnce}
use Rattle.kat_type.specs.Unions.{AreNested, united}
use Rattle.kat_type.specs.declared.done.Done.{Done}
use Rattle.kat_type.proofs.Unions.{once_united}
use Rattle.kat_lattice.specs.Sets.{TellsApart}
use Rattle.kat_design.specs.Denotations.{denotation_of, design_meaning}
use Rattle.kat_design.specs.Designs.{DesignForm}
use Rattle.kat_design.specs.Meanings.{Means, are_kin}
use Rattle.kat_design.specs.Parts.{PartsKin, parts_joined}
use Rattle.kat_design.specs.Sorted.{EachHas, IsWellSorted}
use Rattle.kat_design.specs.declared.states.Part.{Part}
use Rattle.kat_design.proofs.Kinship.{joined_by_parts, states_chained, states_turned}
use Rattle.kat_node.specs.Nodes.{IsNode}
use Rattle.kat_node.specs.Packets.{AreAllNested, EachGoes, all_united, parts_of, with_packet, with_packets}
use Rattle.kat_node.specs.declared.nodes.Node.{Node}
use Rattle.kat_node.proofs.Going.{parts_go}
use Rattle.kat_node.proofs.Joined.{all_of_united}
use Rattle.kat_node.proofs.Kept.{max_by, parts_joined_are}
use Rattle.kat_node.proofs.Leaves.{first_same}
use Rattle.kat_node.proofs.Starts.{each_start}
use Rattle.std.proofs.lemmas.Bool.{cases_lt}
use Rattle.kat_num.specs.Orders.{value_order}

pub with_packet_is : IsTotalOrder value_order → (d : DesignForm) (node packet : Node) → IsWellSorted d → IsNode d node → IsNode d packet → IsNode d (with_packet node packet)
with_packet_is total d node packet sorted h k = record {
  least = h.least;
  most = h.most;
  clock = max_by (λ n. n ≤ 10 ^ 9) node.replica.clock packet.replica.clock (cases_lt node.replica.clock packet.replica.clock) h.clock k.clock;
  parts = parts_joined_are total d.components node.replica.state.parts packet.replica.state.parts (each_start d.sig.ops d.components sorted.components) h.parts k.parts;
}

pub with_packets_are : IsTotalOrder value_order → (d : DesignForm) (node : Node) (packets : List Node) → IsWellSorted d → IsNode d node → EachHas (IsNode d) packets
    → IsNode d (with_packets node packets)
with_packets_are total d node [] sorted h each = h
with_packets_are total d node (packet ∷ packets) sorted h each =
    with_packets_are total d (with_packet node packet) packets sorted (with_packet_is total d node packet sorted h each.0) each.1

-- two nodes of a design go together
pub nodes_go : IsTotalOrder value_order → TellsApart value_order → (d : DesignForm) (node packet : Node) → IsWellSorted d → IsNode d node → IsNode d packet
    → are_kin PartsKin node.replica.state.parts packet.replica.state.parts
nodes_go total apart d node packet sorted h k =
    let none = denotation_of d [] in
    states_chained total node.replica.state.parts none packet.replica.state.parts (parts_go apart d.sig.ops d.components node.replica.state.parts sorted.components h.parts)
    (states_turned total packet.replica.state.parts none (parts_go apart d.sig.ops d.components packet.replica.state.parts sorted.components k.parts))

pub packets_go : IsTotalOrder value_order → TellsApart value_order → (d : DesignForm) (node : Node) (packets : List Node) → IsWellSorted d → IsNode d node → EachHas (IsNode d) packets
    → EachGoes node packets
packets_go total apart d node [] sorted h each = tt
packets_go total apart d node (packet ∷ packets) sorted h each = (
  nodes_go total apart d node packet sorted h each.0,
  packets_go total apart d (with_packet node packet) packets sorted (with_packet_is total d node packet sorted h each.0) each.1,
)

-- the states of lists of operations
one_united : (d : DesignForm) (means : Means (are_kin PartsKin) (design_meaning d)) (xs ys : List Done) (ps qs : List Part) → IsOnce xs → IsOnce ys
    → AreNested xs ys → ps ≡ denotation_of d xs → qs ≡ denotation_of d ys → parts_joined ps qs ≡ denotation_of d (united xs ys)
one_united d means xs ys ps qs once other nested is also =
    let mine = subst (λ (s : List Part). are_kin PartsKin s (denotation_of d [])) (sym is) (means.goes xs []) in
    let theirs = subst (λ (s : List Part). are_kin PartsKin s (denotation_of d [])) (sym also) (means.goes ys []) in
    sym (joined_by_parts d.components ps qs mine theirs) ∙ ap₂ (λ (s t : List Part). (design_meaning d).joined s t) is also ∙ means.unites xs ys once other nested

pub all_operations : (d : DesignForm) (means : Means (are_kin PartsKin) (design_meaning d)) (xs : List Done) (lists : List (List Done)) (node : Node) (packets : List Node) → IsOnce xs
    → AreAllNested xs lists → node.replica.state.parts ≡ denotation_of d xs → map parts_of packets ≡ map (denotation_of d) lists
    → (with_packets node packets).replica.state.parts ≡ denotation_of d (all_united xs lists)
all_operations d means xs [] node [] once all is same = is
all_operations d means xs [] node (packet ∷ packets) once all is same = absurd (cc)
all_operations d means xs (ys ∷ lists) node [] once all is same = absurd (cc)
all_operations d means xs (ys ∷ lists) node (packet ∷ packets) once all is same =
    let both = first_same (parts_of packet) (denotation_of d ys) (map parts_of packets) (map (denotation_of d) lists) same in
    all_operations d means (united xs ys) lists (with_packet node packet) packets (once_united xs ys once all.0) (all_of_united xs ys lists all.1 all.2 all.3)
    (one_united d means xs ys node.replica.state.parts (parts_of packet) once all.0 all.1 is both.0) both.1
