-- Replicas of accepted designs: what each has, and what it is after a call.
use Rattle.std.specs.Prelude.{◌≡◌, ℕ, ◌+◌, List, [], ◌∷◌, ◌++◌, Option, None, Some}
use Rattle.kat_actions.specs.declared.calls.Call.{Call}
use Rattle.kat_design.specs.Denotations.{denotation_of}
use Rattle.kat_design.specs.Designs.{DesignForm, design_form}
use Rattle.kat_design.specs.Sorted.{IsWellSorted}
use Rattle.kat_lattice.specs.Tallies.{Sums, tallies_joined}
use Rattle.kat_node.specs.NodeFiles.{IsNodeText}
use Rattle.kat_node.specs.Nodes.{AreSums, IsNode}
use Rattle.kat_node.specs.Packets.{parts_of, with_packet}
use Rattle.kat_node.specs.declared.nodes.Node.{Node}
use Rattle.kat_script.specs.Rules.{HasFewCalls}
use Rattle.kat_step.specs.Runs.{File}
use Rattle.kat_step.specs.Steps.{done_by, first_node, with_action}
use Rattle.kat_type.specs.Lists.{IsOnce}
use Rattle.kat_type.specs.Signatures.{signature_of}
use Rattle.kat_type.specs.Types.{type_form}
use Rattle.kat_type.specs.Unions.{AreNested, united}
use Rattle.kat_type.specs.declared.done.Done.{Done}
use Rattle.kat_wire.specs.FileForms.{FileForm}
use Rattle.kat_world.specs.AsType.{AnswersAsType}
use Rattle.kat_embed.specs.Accepting.{AreAccepted}
use Rattle.kat_embed.specs.declared.contents.Contents.{Contents}

-- the design of a replica as plain data
abbrev pub design_of : Contents → DesignForm
design_of c = design_form c.design

-- marks that a text can have, if they are known: times from 1 to 10^18 of replicas from 1 to 32
abbrev pub AreMarkSums : Option Sums → Type 0
AreMarkSums None = Unit {0}
AreMarkSums (Some marks) = AreSums marks

-- Each replica has a well-sorted design of the type's signature, with no more operations and queries than scripts can number. The
-- design answers as the type does after any operations, in every order that respects the ranks. What the replica keeps is of the
-- design.
pub record IsSound (c : Contents) : Type 0 where
  pub sorted : IsWellSorted (design_of c)
  pub few : HasFewCalls c.design.sig
  pub signed : signature_of (type_form c.ty) ≡ c.design.sig
  pub right : AnswersAsType (type_form c.ty) (design_of c)
  pub node : IsNode (design_of c) c.node
  pub marks : AreMarkSums c.marks

-- a replica with the operations that it has
abbrev pub file_of : Contents → List Done → File
file_of c has = record { node = c.node; has = has }

-- a replica with another state, and with marks, if they are known
abbrev pub with_state : Contents → Node → Option Sums → Contents
with_state c node marks = record { ty = c.ty; design = c.design; node = node; marks = marks }

-- a replica with another state whose marks aren't known
abbrev pub with_node : Contents → Node → Contents
with_node c node = with_state c node None

-- The replica of this number that did nothing, of the type and the design that the two texts say; the file is accepted.
pub record IsOpened (first second : List ℕ) (number : ℕ) (c : Contents) : Type 0 where
  pub file : FileForm
  pub accepted : AreAccepted first second (type_form c.ty) file
  pub design : design_of c ≡ file.design
  pub node : c.node ≡ first_node (design_of c) number
  pub marks : c.marks ≡ Some []

-- A replica of this number that did nothing, of the type and the design of another one.
pub record IsAnother (c : Contents) (number : ℕ) (other : Contents) : Type 0 where
  pub ty : type_form other.ty ≡ type_form c.ty
  pub design : design_of other ≡ design_of c
  pub node : other.node ≡ first_node (design_of c) number
  pub marks : other.marks ≡ Some []

-- the marks with this time as the replica's, if they are known
abbrev pub raised : Option Sums → ℕ → ℕ → Option Sums
raised None number time = None
raised (Some marks) number time = Some (tallies_joined marks ((number, time) ∷ []))

-- the replica after an operation, at one past its clock
abbrev pub acted : Contents → Call → Contents
acted c call = with_state c (with_action (design_of c) c.node call) (raised c.marks c.node.number (c.node.replica.clock + 1))

-- the replica after a state file is merged: the bytes are one of the design, the clock is the greater one, and the state
-- the join of both. The file says no marks, so they aren't known from then on.
pub record IsMerged (bytes : List ℕ) (before after : Contents) : Type 0 where
  pub packet : Node
  pub is : IsNodeText (design_of before) bytes packet
  pub merged : after ≡ with_node before (with_packet before.node packet)

-- the replica that a state file has: the bytes are one of the design
pub record IsRestored (bytes : List ℕ) (before after : Contents) : Type 0 where
  pub node : Node
  pub is : IsNodeText (design_of before) bytes node
  pub restored : after ≡ with_node before node

-- wherever the state before is what some operations give, the state after is what these and the operation of the call give
abbrev pub AddsOperation : Contents → Call → Contents → Type 0
AddsOperation before call after =
    (xs : List Done) → parts_of before.node ≡ denotation_of (design_of before) xs
    → parts_of after.node ≡ denotation_of (design_of before) (xs ++ done_by before.node call ∷ [])

-- wherever the state before and that of the file are what some operations give, and of each replica the one has all operations of it
-- that the other has, the state after is what all of these give
abbrev pub UnitesOperations : List ℕ → Contents → Contents → Type 0
UnitesOperations bytes before after =
    (packet : Node) → IsNodeText (design_of before) bytes packet → (xs ys : List Done) → IsOnce xs → IsOnce ys → AreNested xs ys
    → parts_of before.node ≡ denotation_of (design_of before) xs → parts_of packet ≡ denotation_of (design_of before) ys
    → parts_of after.node ≡ denotation_of (design_of before) (united xs ys)
