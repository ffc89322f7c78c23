-- Used inside only.
-- What a node has that a known node of the design lacks, as a node.
use Rattle.std.specs.Prelude.{◌≡◌, []}
use Rattle.kat_design.specs.Denotations.{denotation_of}
use Rattle.kat_design.specs.Designs.{DesignForm}
use Rattle.kat_design.specs.Parts.{parts_joined}
use Rattle.kat_design.specs.Sorted.{IsWellSorted}
use Rattle.kat_difference.specs.States.{IsDifference}
use Rattle.kat_node.specs.Nodes.{IsNode}
use Rattle.kat_node.specs.Packets.{parts_of, with_packet}
use Rattle.kat_node.specs.declared.nodes.Node.{Node}

-- the number and the clock of the whole node, and the difference of the states
pub record IsNodeDifference (d : DesignForm) (known whole told : Node) : Type 0 where
  pub number : told.number ≡ whole.number
  pub clock : told.replica.clock ≡ whole.replica.clock
  pub state : IsDifference (denotation_of d []) (parts_of known) (parts_of whole) (parts_of told)

-- The difference of two nodes of a design is one of the design.
abbrev pub DifferencesAreNodes : Type 0
DifferencesAreNodes = (d : DesignForm) (known whole told : Node) → IsWellSorted d → IsNode d whole → IsNodeDifference d known whole told → IsNode d told

-- If what is known adds nothing to a node's state, the difference leaves there what the whole node leaves.
abbrev pub DifferencesMergeAsWholes : Type 0
DifferencesMergeAsWholes = (d : DesignForm) (known whole told peer : Node) → IsWellSorted d → IsNode d known → IsNode d whole → IsNode d peer → IsNodeDifference d known whole told
    → parts_joined (parts_of peer) (parts_of known) ≡ parts_of peer → with_packet peer told ≡ with_packet peer whole
