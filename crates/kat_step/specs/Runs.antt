-- State files that only calls wrote, and what they have.
use Rattle.std.specs.Prelude.{◌≡◌, ℕ, ◌≤◌, ◌⊎◌, ◌==◌, List, [], ◌∷◌, ◌++◌, map, max, find, Option, None, Some}
use Rattle.std.specs.List.{AllByRecursion}
use Rattle.kat_type.specs.Lists.{Has, IsOnce}
use Rattle.kat_type.specs.declared.done.Done.{Done}
use Rattle.kat_type.specs.declared.signatures.Signature.{Signature}
use Rattle.kat_design.specs.Denotations.{denotation_of}
use Rattle.kat_design.specs.Designs.{DesignForm}
use Rattle.kat_design.specs.Fitting.{FitsSignature}
use Rattle.kat_design.specs.Sorted.{EachHas}
use Rattle.kat_actions.specs.Texts as calls
use Rattle.kat_actions.specs.declared.calls.Call.{Call}
use Rattle.kat_actions.specs.declared.calls.Verb.TheVariants.{Do}
use Rattle.kat_node.specs.Nodes.{IsNode}
use Rattle.kat_node.specs.Packets.{all_united, parts_of, with_packets}
use Rattle.kat_node.specs.declared.nodes.Node.{Node}
use Rattle.kat_step.specs.Limits.{first_refusal}
use Rattle.kat_step.specs.Steps.{done_from, first_node, with_actions}

-- a state file that was written: its node, and the operations that it has by then
pub record File : Type 0 where
  pub node : Node
  pub has : List Done

abbrev pub nodes_of : List File → List Node
nodes_of files = map (λ (file : File). file.node) files

abbrev pub lists_of : List File → List (List Done)
lists_of files = map (λ (file : File). file.has) files

-- what the replica of a number wrote last; the newest files come first
abbrev pub last_of : ℕ → List File → Option File
last_of number files = find (λ (file : File). file.node.number == number) files

-- the file of a new replica
abbrev pub new_file : DesignForm → ℕ → File
new_file d number = record { node = first_node d number; has = [] }

-- a node with the operations of a list that it has, after its actions
abbrev pub with_actions_done : DesignForm → Node → List Done → List Call → File
with_actions_done d node has actions = record {
  node = with_actions d node actions;
  has = has ++ done_from node.number node.replica.clock actions;
}

-- the file of a replica after packets and then actions: it has what the files had, and the operations of the actions
abbrev pub stepped_file : DesignForm → File → List File → List Call → File
stepped_file d file packets actions = with_actions_done d (with_packets file.node (nodes_of packets)) (all_united file.has (lists_of packets)) actions

-- These files were written by calls alone, the newest first. Each number was begun once; and each step of a replica took the
-- file that this replica wrote last, with any files that were written before, of whatever replicas and however often, as packets.
pub data AreWritten (d : DesignForm) : List File → Type 0 where
  none : AreWritten d []
  begun : {files : List File} (number : ℕ) → AreWritten d files → 1 ≤ number → number ≤ 32 → last_of number files ≡ None
      → AreWritten d (new_file d number ∷ files)
  stepped : {files : List File} (file : File) (packets : List File) (actions : List Call) → AreWritten d files
      → last_of file.node.number files ≡ Some file → EachHas (Has files) packets
      → AllByRecursion (calls.FitsSignature Do d.sig) actions
      → first_refusal d (with_packets file.node (nodes_of packets)) actions ≡ None
      → AreWritten d (stepped_file d file packets actions ∷ files)

-- operations that can have been done together: they fit, their times are above 0, and time and replica tell them apart
pub record IsLegal (sig : Signature) (xs : List Done) : Type 0 where
  pub once : IsOnce xs
  pub fits : (one : Done) → Has xs one → FitsSignature sig one
  pub timed : (one : Done) → Has xs one → 1 ≤ one.time
  pub apart : (one other : Done) → Has xs one → Has xs other → one.replica ≡ other.replica → one.time ≡ other.time → one ≡ other

-- of an origin, the operations of the one list are a prefix, by time, of the other's
pub record IsPrefix (origin : ℕ) (xs ys : List Done) : Type 0 where
  pub among : (one : Done) → one.replica ≡ origin → Has xs one → Has ys one
  pub closed : (one early : Done) → one.replica ≡ origin → early.replica ≡ origin → Has xs one → Has ys early → early.time ≤ one.time → Has xs early

-- of each origin, the operations in one of the two lists are a prefix, by time, of those in the other
abbrev pub AreNear : List Done → List Done → Type 0
AreNear xs ys = (origin : ℕ) → IsPrefix origin xs ys ⊎ IsPrefix origin ys xs

-- the lists are pairwise near
abbrev pub AreAllNear : List (List Done) → Type 0
AreAllNear [] = Unit {0}
AreAllNear (xs ∷ lists) = EachHas (AreNear xs) lists × AreAllNear lists

-- one of the files has the operation
abbrev pub WasRead : List File → Done → Type 0
WasRead files one = (file : File) × Has files file × Has file.has one

-- the greatest clock of the files
abbrev pub greatest_clock : List File → ℕ
greatest_clock [] = 0
greatest_clock (file ∷ files) = max file.node.replica.clock (greatest_clock files)

-- a file is the state of the operations that it has: they are legal, none is later than its clock, and its state is what they give
pub record IsStateFile (d : DesignForm) (file : File) : Type 0 where
  pub node : IsNode d file.node
  pub legal : IsLegal d.sig file.has
  pub within : (one : Done) → Has file.has one → one.time ≤ file.node.replica.clock
  pub state : parts_of file.node ≡ denotation_of d file.has
