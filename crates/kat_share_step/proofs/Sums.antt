-- Marks that a text can have.
use Rattle.std.proofs.Common.{◌≡◌, ℕ, ◌≤◌, ◌<◌, ◌^◌, List, [], ◌∷◌, subst, sym, arith}
use Rattle.std.specs.List.{AllByRecursion}
use Rattle.kat_lattice.specs.Tallies.{IsTally, Sums, TalliesKin, tallies_joined}
use Rattle.kat_design.specs.Designs.{DesignForm}
use Rattle.kat_design.specs.Sorted.{EachHas, IsWellSorted}
use Rattle.kat_node.specs.Nodes.{AreSums, IsNode, IsSum}
use Rattle.kat_node.specs.Packets.{with_packets}
use Rattle.kat_node.specs.declared.nodes.Node.{Node}
use Rattle.kat_share.specs.MarksTexts.{IsMarksText, marks_design, marks_node}
use Rattle.kat_share.specs.declared.packets.SharePacket.{SharePacket}
use Rattle.kat_share.specs.declared.shares.Share.{Share}
use Rattle.kat_share_step.specs.Shares.{IsPacket, IsShare, SaysPacket, SaysShare}

marks_sorted : IsWellSorted marks_design
marks_sorted = record { few = omega arith; small = omega arith; components = (tt, tt); asks = tt }

-- marks with the number and the clock of a node
pub marks_are : (number clock : ℕ) (marks : Sums) → 1 ≤ number → number ≤ 32 → clock ≤ 10 ^ 9 → AreSums marks → IsNode marks_design (marks_node number clock marks)
marks_are number clock marks least most early sums = record { least = least; most = most; clock = early; parts = (sums, tt) }

pub marks_of : (d : DesignForm) (node : Node) (marks : Sums) → IsNode d node → AreSums marks → IsNode marks_design (marks_node node.number node.replica.clock marks)
marks_of d node marks is sums = marks_are node.number node.replica.clock marks is.least is.most is.clock sums

pub marks_said : (bytes : List ℕ) (marks : Sums) → IsMarksText bytes marks → AreSums marks
marks_said bytes marks says = says.text.possible.parts.0

counted : (sums : Sums) → EachHas IsSum sums → AllByRecursion (λ (e : ℕ × ℕ). 0 < e.1) sums
counted [] each = tt
counted (sum ∷ sums) each = (let least = each.0.least in omega (arith, least), counted sums each.1)

pub sums_tally : (sums : Sums) → AreSums sums → IsTally sums
sums_tally sums is = record { ascending = is.ascending; counted = counted sums is.each }

pub sums_kin : (marks others : Sums) → AreSums marks → AreSums others → TalliesKin marks others
sums_kin marks others h k = record { left = sums_tally marks h; right = sums_tally others k }

-- what is known of packets (kat_node)
abbrev pub PacketsKept : Type 0
PacketsKept = (d : DesignForm) (node : Node) (packets : List Node) → IsWellSorted d → IsNode d node → EachHas (IsNode d) packets → IsNode d (with_packets node packets)

pub sums_joined : PacketsKept → (marks others both : Sums) → AreSums marks → AreSums others → both ≡ tallies_joined marks others → AreSums both
sums_joined kept marks others both h k same =
    let mine : IsNode marks_design (marks_node 1 0 marks) = marks_are 1 0 marks (omega arith) (omega arith) (omega arith) h in
    let theirs : IsNode marks_design (marks_node 1 0 others) = marks_are 1 0 others (omega arith) (omega arith) (omega arith) k in
    subst AreSums (sym same) ((kept marks_design (marks_node 1 0 marks) (marks_node 1 0 others ∷ []) marks_sorted mine (theirs, tt)).parts.0)

-- the mark of one operation
pub one_mark : (number time : ℕ) → 1 ≤ number → number ≤ 32 → 1 ≤ time → time ≤ 10 ^ 9 → AreSums ((number, time) ∷ [])
one_mark number time least most early late =
    record { ascending = (tt, tt); each = (record { least_replica = least; most_replica = most; least = early; most = omega (arith, late) }, tt) }

-- what texts say can be said again
pub share_said : (d : DesignForm) (bytes : List ℕ) (share : Share) → SaysShare d bytes share → IsShare d share
share_said d bytes share says = record { node = says.state.possible; marks = marks_said _ share.marks says.marks_are }

pub packet_said : (d : DesignForm) (bytes : List ℕ) (packet : SharePacket) → SaysPacket d bytes packet → IsPacket d packet
packet_said d bytes packet says = record { base = marks_said _ packet.base says.base_is; told = share_said d _ packet.told says.told }
