-- Marks as texts: state files of a fixed design, which keeps one tally and has no operations.
use Rattle.std.specs.Prelude.{ℕ, List, [], ◌∷◌}
use Rattle.kat_lattice.specs.Tallies.{Sums}
use Rattle.kat_design.specs.Designs.{DesignForm}
use Rattle.kat_design.specs.Designs.ComponentForm.{a_tally}
use Rattle.kat_design.specs.declared.states.Part.TheVariants as part
use Rattle.kat_node.specs.NodeFiles.{IsNodeText}
use Rattle.kat_node.specs.declared.nodes.Node.{Node}

-- the design: a tally on which no operation has an effect
abbrev pub marks_design : DesignForm
marks_design = record { sig = record { ops = []; queries = [] }; components = a_tally [] ∷ []; asks = [] }

-- the number and the clock of a replica with its marks, as a node of that design
abbrev pub marks_node : ℕ → ℕ → Sums → Node
marks_node number clock marks = record { number = number; replica = record { clock = clock; state = record { parts = part.Tally marks ∷ [] } } }

-- the text says these marks, with the number and the clock of some replica
pub record IsMarksText (bytes : List ℕ) (marks : Sums) : Type 0 where
  pub number : ℕ
  pub clock : ℕ
  pub text : IsNodeText marks_design bytes (marks_node number clock marks)
