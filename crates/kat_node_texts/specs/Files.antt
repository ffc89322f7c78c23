-- The files of a step after their design: which they are, and how one is refused.
use Rattle.std.specs.Prelude.{◌≡◌, ℕ, zero, suc, ◌+◌, List, [], ◌∷◌, map, Vec}
use Rattle.std.specs.List.{AllByRecursion}
use Rattle.std.specs.Global.{Global}
use Rattle.kat_actions.specs.Texts as calls
use Rattle.kat_actions.specs.declared.calls.Call.{Call}
use Rattle.kat_actions.specs.declared.calls.Verb.TheVariants.{Do}
use Rattle.kat_design.specs.Designs.{DesignForm}
use Rattle.kat_design.specs.Sorted.{AreMatched, EachHas}
use Rattle.kat_node.specs.Judgements.{IsRefusal}
use Rattle.kat_node.specs.NodeFiles.{IsNodeText}
use Rattle.kat_node.specs.Nodes.{IsNode}
use Rattle.kat_node.specs.Packets.{with_packets}
use Rattle.kat_node.specs.declared.errors.NodeError.TheVariants as state
use Rattle.kat_node.specs.declared.nodes.Node.{Node}
use Rattle.kat_script.specs.declared.error.ScriptError.TheVariants as script
use Rattle.kat_step.specs.Steps.{with_actions}
use Rattle.kat_node_texts.specs.declared.files.FileError.{FileError}
use Rattle.kat_node_texts.specs.declared.files.FileError.TheVariants.{State, Calls}
use Rattle.kat_node_texts.specs.declared.files.FileRefused.{FileRefused}
use Rattle.kat_node_texts.specs.declared.files.StepFiles.{StepFiles}

-- the contents of vectors of bytes
abbrev pub contents : List (Vec ℕ Global) → List (List ℕ)
contents vectors = map (λ (vector : Vec ℕ Global). vector.items) vectors

-- a state file, actions, and packets, which are state files of others
pub record AreStepFiles (d : DesignForm) (node actions : List ℕ) (packets : List (List ℕ)) (files : StepFiles) : Type 0 where
  pub is_node : IsNodeText d node files.node
  pub are_actions : calls.AreCallsOf Do d.sig actions files.actions
  pub are_packets : AreMatched (IsNodeText d) packets files.packets

-- a file after a design, by its place: the second has actions, each other one is a state file
abbrev pub Passes : DesignForm → ℕ → List ℕ → Type 0
Passes d (suc zero) text = (actions : List Call) × calls.AreCallsOf Do d.sig text actions
Passes d place text = (node : Node) × IsNodeText d text node

abbrev pub IsStateRefused : DesignForm → List ℕ → FileError → Type 0
IsStateRefused d text (State error) = IsRefusal d text error
IsStateRefused d text (Calls error) = ⊥

abbrev pub AreActionsRefused : DesignForm → List ℕ → FileError → Type 0
AreActionsRefused d text (State error) = ⊥
AreActionsRefused d text (Calls error) = calls.IsRefused Do d.sig text error

abbrev pub IsRefusedAt : DesignForm → ℕ → List ℕ → FileError → Type 0
IsRefusedAt d (suc zero) text error = AreActionsRefused d text error
IsRefusedAt d place text error = IsStateRefused d text error

-- of these files, the first of which has a number, the one of this number is the first that doesn't pass
abbrev pub IsFirstRefused : DesignForm → ℕ → List (List ℕ) → ℕ → FileError → Type 0
IsFirstRefused d place [] file error = ⊥
IsFirstRefused d place (text ∷ texts) zero error = IsRefusedAt d place text error
IsFirstRefused d place (text ∷ texts) (suc file) error = Passes d place text × IsFirstRefused d (suc place) texts file error

-- what an error says: nothing if memory ran out
abbrev pub IfTold : FileError → Type 0 → Type 0
IfTold (State state.Memory) told = Unit {0}
IfTold (Calls script.Memory) told = Unit {0}
IfTold error told = told

abbrev pub TellsRefused : DesignForm → List (List ℕ) → FileRefused → Type 0
TellsRefused d texts refused = IfTold refused.error (IsFirstRefused d 0 texts refused.file refused.error)

-- used inside only: the same of packets, of which the first has this number
abbrev pub TellsPacket : DesignForm → ℕ → List (List ℕ) → FileRefused → Type 0
TellsPacket d first packets refused = IfTold refused.error ((place : ℕ) × (refused.file ≡ first + place) × IsFirstRefused d 2 packets place refused.error)

-- what the files of a step say is of one design
pub record AreOf (d : DesignForm) (files : StepFiles) : Type 0 where
  pub node : IsNode d files.node
  pub packets : EachHas (IsNode d) files.packets
  pub actions : AllByRecursion (calls.FitsSignature Do d.sig) files.actions

-- the node after the step: with all packets merged, and then with the actions
abbrev pub node_behind : DesignForm → StepFiles → Node
node_behind d files = with_actions d (with_packets files.node files.packets) files.actions
