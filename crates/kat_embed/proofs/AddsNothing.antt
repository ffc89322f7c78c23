-- A state to which another one adds nothing.
use Rattle.std.proofs.Common.{◌≡◌, ℕ, ◌≤◌, max, List, [], ◌∷◌, refl, sym, ◌∙◌, ap, arith}
use Rattle.std.specs.Cmp.{IsTotalOrder}
use Rattle.kat_num.specs.Orders.{value_order}
use Rattle.kat_lattice.specs.MapLaws.{map_laws}
use Rattle.kat_lattice.specs.Sets.{set_laws}
use Rattle.kat_lattice.specs.Tallies.{tally_laws}
use Rattle.kat_shape.specs.Laws.{cell_laws}
use Rattle.kat_design.specs.Meanings.{are_kin}
use Rattle.kat_design.specs.Parts.{PartsKin, part_joined, parts_joined}
use Rattle.kat_design.specs.declared.states.Part.{Part}
use Rattle.kat_design.specs.declared.states.Part.TheVariants as part
use Rattle.kat_node.specs.Packets.{parts_of, with_packet}
use Rattle.kat_node.specs.declared.nodes.Node.{Node}
use Rattle.kat_embed.specs.Absorbing.{IsAbsorbed}

part_comm : IsTotalOrder value_order → (a b : Part) → PartsKin a b → part_joined a b ≡ part_joined b a
part_comm o (part.Cell a) (part.Cell b) h = ap part.Cell (cell_laws.comm a b h)
part_comm o (part.Table a) (part.Table b) h = ap part.Table ((map_laws o cell_laws).comm a b h)
part_comm o (part.Set a) (part.Set b) h = ap part.Set ((set_laws o).comm a b h)
part_comm o (part.Tally a) (part.Tally b) h = ap part.Tally (tally_laws.comm a b h)
part_comm o (part.Tallies a) (part.Tallies b) h = ap part.Tallies ((map_laws o tally_laws).comm a b h)
part_comm o _ _ h = absurd h

both_same : (x y : Part) (xs ys : List Part) → x ≡ y → xs ≡ ys → x ∷ xs ≡ y ∷ ys
both_same x y xs ys e f = cc

pub parts_comm : IsTotalOrder value_order → (xs ys : List Part) → are_kin PartsKin xs ys → parts_joined xs ys ≡ parts_joined ys xs
parts_comm o [] [] h = refl
parts_comm o [] (y ∷ ys) h = absurd h
parts_comm o (x ∷ xs) [] h = absurd h
parts_comm o (x ∷ xs) (y ∷ ys) h = both_same _ _ _ _ (part_comm o x y h.0) (parts_comm o xs ys h.1)

-- nothing is known of no parts
pub none_absorbed : (parts known : List Part) → are_kin PartsKin parts known → parts ≡ [] → parts_joined parts known ≡ known
none_absorbed [] [] h e = refl
none_absorbed [] (k ∷ known) h e = absurd h
none_absorbed (p ∷ parts) known h e = absurd (cc)

node_same : (node : Node) (clock : ℕ) (parts : List Part) → clock ≡ node.replica.clock → parts ≡ parts_of node → node ≡ record { number = node.number; replica = record { clock = clock; state = record { parts = parts } } }
node_same node clock parts e f = λ i. record { number = node.number; replica = record { clock = sym e i; state = record { parts = sym f i } } }

-- what is absorbed changes nothing
pub absorbed_same : IsTotalOrder value_order → (node packet : Node) → are_kin PartsKin (parts_of packet) (parts_of node) → IsAbsorbed node packet → node ≡ with_packet node packet
absorbed_same o node packet kin is =
    let early : packet.replica.clock ≤ node.replica.clock = is.clock in
    let clock : max node.replica.clock packet.replica.clock ≡ node.replica.clock = omega (arith, early) in
    let parts : parts_joined (parts_of node) (parts_of packet) ≡ parts_of node = sym (parts_comm o (parts_of packet) (parts_of node) kin) ∙ is.state in
    node_same node (max node.replica.clock packet.replica.clock) (parts_joined (parts_of node) (parts_of packet)) clock parts

-- and what changes nothing is absorbed
pub same_absorbed : IsTotalOrder value_order → (node packet : Node) → are_kin PartsKin (parts_of packet) (parts_of node) → with_packet node packet ≡ node → IsAbsorbed node packet
same_absorbed o node packet kin same =
    let clock : max node.replica.clock packet.replica.clock ≡ node.replica.clock = ap (λ (n : Node). n.replica.clock) same in
    let parts : parts_joined (parts_of node) (parts_of packet) ≡ parts_of node = ap (λ (n : Node). n.replica.state.parts) same in
    record { clock = omega (arith, clock); state = parts_comm o (parts_of packet) (parts_of node) kin ∙ parts }
