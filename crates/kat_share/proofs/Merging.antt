-- What is merged of a difference is what is merged of the whole node.
use Rattle.std.proofs.Common.{◌≡◌, ℕ, max, List, [], sym, ◌∙◌, ap}
use Rattle.std.specs.Cmp.{IsTotalOrder}
use Rattle.kat_num.specs.Orders.{value_order}
use Rattle.kat_design.specs.Denotations.{denotation_of}
use Rattle.kat_design.specs.Designs.{DesignForm}
use Rattle.kat_design.specs.Meanings.{are_kin}
use Rattle.kat_design.specs.Parts.{PartsKin, parts_joined}
use Rattle.kat_design.specs.Sorted.{IsWellSorted}
use Rattle.kat_design.specs.declared.states.Part.{Part}
use Rattle.kat_difference.proofs.PartLaws.{parts_assoc}
use Rattle.kat_node.specs.Nodes.{IsNode}
use Rattle.kat_node.specs.Packets.{parts_of, with_packet}
use Rattle.kat_node.specs.declared.nodes.Node.{Node}
use Rattle.kat_share.specs.NodeDifferences.{DifferencesMergeAsWholes}

-- what serves beside what is known serves beside a state to which it adds nothing
above_same : IsTotalOrder value_order → (above known told whole : List Part) → are_kin PartsKin above known → are_kin PartsKin known told → are_kin PartsKin known whole → parts_joined above known ≡ above → parts_joined known told ≡ parts_joined known whole → parts_joined above told ≡ parts_joined above whole
above_same o above known told whole h k l e same =
    ap (λ (t : List Part). parts_joined t told) (sym e)
    ∙ (parts_assoc o above known told h k ∙ (ap (parts_joined above) same ∙ (sym (parts_assoc o above known whole h l) ∙ ap (λ (t : List Part). parts_joined t whole) e)))

abbrev merged_as : Node → ℕ → List Part → Node
merged_as peer clock parts = record { number = peer.number; replica = record { clock = max peer.replica.clock clock; state = record { parts = parts } } }

same_packet : (peer told whole : Node) → told.replica.clock ≡ whole.replica.clock → parts_joined (parts_of peer) (parts_of told) ≡ parts_joined (parts_of peer) (parts_of whole) → with_packet peer told ≡ with_packet peer whole
same_packet peer told whole e f =
    ap (λ (n : ℕ). merged_as peer n (parts_joined (parts_of peer) (parts_of told))) e ∙ ap (merged_as peer whole.replica.clock) f

pub differences_merge : IsTotalOrder value_order → ((d : DesignForm) (node : Node) → IsWellSorted d → IsNode d node → are_kin PartsKin (parts_of node) (denotation_of d []))
    → ((xs ys : List Part) → are_kin PartsKin xs ys → are_kin PartsKin ys xs) → ((xs ys zs : List Part) → are_kin PartsKin xs ys → are_kin PartsKin ys zs → are_kin PartsKin xs zs)
    → DifferencesMergeAsWholes
differences_merge o goes turned chained d known whole told peer sorted k w p difference nothing =
    let start : List Part = denotation_of d [] in
    let from_known : are_kin PartsKin start (parts_of known) = turned (parts_of known) start (goes d known sorted k) in
    let from_whole : are_kin PartsKin start (parts_of whole) = turned (parts_of whole) start (goes d whole sorted w) in
    same_packet peer told whole difference.clock
    (above_same o (parts_of peer) (parts_of known) (parts_of told) (parts_of whole) (chained (parts_of peer) start (parts_of known) (goes d peer sorted p) from_known) difference.state.goes
    (chained (parts_of known) start (parts_of whole) (goes d known sorted k) from_whole) nothing difference.state.same)
