-- A text is at most one share file, and at most one packet.
use Rattle.std.proofs.Common.{◌≡◌, ℕ, List, [], ◌∷◌, ap}
use Rattle.kat_lattice.specs.Tallies.{Sums}
use Rattle.kat_design.specs.Designs.{DesignForm}
use Rattle.kat_design.specs.declared.states.Part.{Part}
use Rattle.kat_design.specs.declared.states.Part.TheVariants as part
use Rattle.kat_node.specs.NodeFiles.{IsNodeText}
use Rattle.kat_node.specs.declared.nodes.Node.{Node}
use Rattle.kat_share.specs.MarksTexts.{IsMarksText, marks_design, marks_node}
use Rattle.kat_share.specs.ShareTexts.{PacketsAreOne, SharesAreOne, after_line, first_line}

-- what is known of state files (kat_node)
abbrev pub OneNode : Type 0
OneNode = (d : DesignForm) (bytes : List ℕ) (some other : Node) → IsNodeText d bytes some → IsNodeText d bytes other → some ≡ other

-- the tally of a state that keeps one
abbrev sums_in : List Part → Sums
sums_in (part.Tally sums ∷ parts) = sums
sums_in _ = []

marks_one : OneNode → (bytes : List ℕ) (marks others : Sums) → IsMarksText bytes marks → IsMarksText bytes others → marks ≡ others
marks_one one bytes marks others a b =
    let same : marks_node a.number a.clock marks ≡ marks_node b.number b.clock others =
    one marks_design bytes (marks_node a.number a.clock marks) (marks_node b.number b.clock others) a.text b.text in
    ap (λ (n : Node). sums_in n.replica.state.parts) same

pub shares_one : OneNode → SharesAreOne
shares_one one d bytes node other marks others a b =
    (one d (after_line bytes) node other a.state b.state, marks_one one (first_line bytes) marks others a.marks_are b.marks_are)

pub packets_one : OneNode → PacketsAreOne
packets_one one d bytes base bases node other marks others a b =
    let told = shares_one one d (after_line bytes) node other marks others a.told b.told in
    (marks_one one (first_line bytes) base bases a.base_is b.base_is, told.0, told.1)
