-- Replicas that ship differences: share files, packets, and what a replica has once it merged a packet. A replica does so as long as
-- its marks are known.
use Rattle.std.specs.Prelude.{◌≡◌, ◌≢◌, ℕ, List, [], ◌∷◌, Option, None, Some}
use Rattle.kat_lattice.specs.Tallies.{Sums, tallies_joined}
use Rattle.kat_design.specs.Designs.{DesignForm}
use Rattle.std.specs.List.{AllByRecursion}
use Rattle.kat_design.specs.Denotations.{denotation_of}
use Rattle.kat_design.specs.Parts.{parts_joined}
use Rattle.kat_difference.specs.Marks.{AreMarks}
use Rattle.kat_difference.specs.States.{IsExact}
use Rattle.kat_node.specs.Nodes.{IsNode}
use Rattle.kat_node.specs.Packets.{parts_of, with_packet}
use Rattle.kat_node.specs.declared.nodes.Node.{Node}
use Rattle.kat_share.specs.MarksTexts.{IsMarksText}
use Rattle.kat_share.specs.ShareTexts.{IsPacketRefusal, IsPacketText, IsShareRefusal, IsShareText}
use Rattle.kat_step.specs.Runs.{AreNear, IsStateFile}
use Rattle.kat_step.specs.Steps.{first_node}
use Rattle.kat_type.specs.Unions.{united}
use Rattle.kat_type.specs.declared.done.Done.{Done}
use Rattle.kat_embed.specs.Contents.{IsSound, design_of, file_of, with_state}
use Rattle.kat_embed.specs.declared.contents.Contents.{Contents}
use Rattle.kat_embed.specs.declared.errors.SharingError.{SharingError}
use Rattle.kat_embed.specs.declared.errors.SharingError.TheVariants.{NoMarks, BadShare, BadPacket, Gap, Memory}

-- the marks are known, and the text says them
pub record TellsMarks (marks : Option Sums) (text : List ℕ) : Type 0 where
  pub known : Sums
  pub are : marks ≡ Some known
  pub says : IsMarksText text known

-- the marks are known, and the text is the share file of the node with them
pub record TellsShare (d : DesignForm) (node : Node) (marks : Option Sums) (text : List ℕ) : Type 0 where
  pub known : Sums
  pub are : marks ≡ Some known
  pub says : IsShareText d text node known

-- the marks aren't known; out of memory tells nothing
abbrev pub HasNoMarks : Option Sums → SharingError → Type 0
HasNoMarks marks NoMarks = marks ≡ None
HasNoMarks marks Memory = Unit {0}
HasNoMarks marks error = ⊥

-- what is known: the node and the marks of a share file; if there are no bytes, a replica that did nothing
abbrev pub IsKnown : DesignForm → ℕ → List ℕ → Node → Sums → Type 0
IsKnown d number [] node marks = (node ≡ first_node d number) × (marks ≡ [])
IsKnown d number (byte ∷ bytes) node marks = IsShareText d (byte ∷ bytes) node marks

-- used inside only: the bytes are no share file
abbrev pub IsNotKnown : DesignForm → List ℕ → SharingError → Type 0
IsNotKnown d known (BadShare error) = IsShareRefusal d known error
IsNotKnown d known Memory = Unit {0}
IsNotKnown d known error = ⊥

-- the state of the node is at or above what no operation gives
abbrev pub IsFromStart : DesignForm → Node → Type 0
IsFromStart d node = parts_joined (denotation_of d []) (parts_of node) ≡ parts_of node

-- What is told has the number and the clock of the node, and joined to what is known it gives what the node gives there. Of states at or
-- above what no operation gives, it is that as soon as the node has nothing new; and if no cell's shape has a pair, it is at or below
-- each other state that does so much.
pub record IsBeyond (d : DesignForm) (known node told : Node) : Type 0 where
  pub number : told.number ≡ node.number
  pub clock : told.replica.clock ≡ node.replica.clock
  pub same : parts_joined (parts_of known) (parts_of told) ≡ parts_joined (parts_of known) (parts_of node)
  pub nothing : IsFromStart d known → IsFromStart d node → parts_joined (parts_of node) (parts_of known) ≡ parts_of known
      → parts_of told ≡ denotation_of d []
  pub least : AllByRecursion IsExact (denotation_of d []) → IsFromStart d known → IsFromStart d node → (other : Node) → IsNode d other → IsFromStart d other
      → parts_joined (parts_of known) (parts_of other) ≡ parts_joined (parts_of known) (parts_of node)
      → parts_joined (parts_of told) (parts_of other) ≡ parts_of other

-- the text is the packet of what the node has beyond what is known: with the marks of what is known as its base, and those of the node
pub record TellsDifference (d : DesignForm) (node : Node) (marks : Option Sums) (known text : List ℕ) : Type 0 where
  pub whole : Sums
  pub are : marks ≡ Some whole
  pub before : Node
  pub base : Sums
  pub is_known : IsKnown d node.number known before base
  pub told : Node
  pub made : IsBeyond d before node told
  pub packet : IsPacketText d text base told whole

-- the marks aren't known, or the bytes are no share file
abbrev pub TellsNoDifference : DesignForm → Option Sums → List ℕ → SharingError → Type 0
TellsNoDifference d marks known NoMarks = marks ≡ None
TellsNoDifference d marks known (BadShare error) = IsShareRefusal d known error
TellsNoDifference d marks known Memory = Unit {0}
TellsNoDifference d marks known error = ⊥

-- a packet is merged: all operations are there from which on it tells, the clock is the greater one, the state the join of both, and
-- of each replica the mark is the greater one
pub record CatchesUp (d : DesignForm) (bytes : List ℕ) (before : Node) (marks : Option Sums) (after : Node) (next : Sums) : Type 0 where
  pub known : Sums
  pub are : marks ≡ Some known
  pub base : Sums
  pub told : Node
  pub others : Sums
  pub is : IsPacketText d bytes base told others
  pub covered : tallies_joined base known ≡ known
  pub node : after ≡ with_packet before told
  pub marks_are : next ≡ tallies_joined known others

-- a packet tells from later marks on than those that are known here
pub record IsGap (d : DesignForm) (bytes : List ℕ) (marks : Option Sums) : Type 0 where
  pub known : Sums
  pub are : marks ≡ Some known
  pub base : Sums
  pub told : Node
  pub others : Sums
  pub is : IsPacketText d bytes base told others
  pub missing : tallies_joined base known ≢ known

-- the marks aren't known, the bytes are no packet, or there is a gap
abbrev pub CatchesNotUp : DesignForm → List ℕ → Option Sums → SharingError → Type 0
CatchesNotUp d bytes marks NoMarks = marks ≡ None
CatchesNotUp d bytes marks (BadShare error) = ⊥
CatchesNotUp d bytes marks (BadPacket error) = IsPacketRefusal d bytes error
CatchesNotUp d bytes marks Gap = IsGap d bytes marks
CatchesNotUp d bytes marks Memory = Unit {0}

-- the replica after a packet is merged
pub record IsCaughtUp (bytes : List ℕ) (before after : Contents) : Type 0 where
  pub node : Node
  pub marks : Sums
  pub does : CatchesUp (design_of before) bytes before.node before.marks node marks
  pub merged : after ≡ with_state before node (Some marks)

-- the replica that a share file has
pub record IsShared (bytes : List ℕ) (before after : Contents) : Type 0 where
  pub node : Node
  pub marks : Sums
  pub is : IsShareText (design_of before) bytes node marks
  pub restored : after ≡ with_state before node (Some marks)

-- marks, if they are known, are those of these operations
abbrev pub AreMarksOf : Option Sums → List Done → Type 0
AreMarksOf None has = Unit {0}
AreMarksOf (Some marks) has = AreMarks marks has

-- the replica has these operations: its state is what they give, and its marks, if they are known, are theirs
pub record HasOperations (c : Contents) (has : List Done) : Type 0 where
  pub state : IsStateFile (design_of c) (file_of c has)
  pub marks : AreMarksOf c.marks has

-- A packet that isn't refused gives a replica all operations that its sender had: `mine` are its own, `theirs` those of what was known
-- of it, `all` those of the sender.
abbrev pub PacketsCatchUp : Type 0
PacketsCatchUp = (known packet : List ℕ) (before after sender : Contents) (node : Node) (base : Sums) (mine theirs all : List Done)
    → IsSound before → IsSound sender → design_of before ≡ design_of sender → HasOperations before mine → HasOperations sender all
    → IsKnown (design_of sender) sender.node.number known node base → IsStateFile (design_of sender) (record { node = node; has = theirs }) → AreMarks base theirs
    → AreNear theirs mine → AreNear mine all
    → TellsDifference (design_of sender) sender.node sender.marks known packet → IsCaughtUp packet before after
    → HasOperations after (united mine all)
