-- What `node-step DESIGN STATE ACTIONS PACKETS` takes and writes.
use Rattle.std.specs.Prelude.{◌≡◌, ℕ, ◌+◌, List, [], ◌∷◌, ◌++◌, length, map, Option, None, Some}
use Rattle.kat_design.specs.Denotations.{denotation_of}
use Rattle.kat_json.specs.declared.errors.WireError.{WireError}
use Rattle.kat_node.specs.Packets.{AreAllNested, all_united, parts_of, with_packets}
use Rattle.kat_node.specs.StateData.{node_text}
use Rattle.kat_node.specs.declared.nodes.Node.{Node}
use Rattle.kat_node_texts.specs.Files as files
use Rattle.kat_node_texts.specs.declared.files.FileError.{FileError}
use Rattle.kat_node_texts.specs.declared.files.StepFiles.{StepFiles}
use Rattle.kat_step.specs.Limits.{first_refusal}
use Rattle.kat_step.specs.Steps.{done_from}
use Rattle.kat_step.specs.declared.error.StepError.{StepError}
use Rattle.kat_type.specs.Lists.{IsOnce}
use Rattle.kat_type.specs.declared.done.Done.{Done}
use Rattle.kat_wire.specs.FileForms.{FileForm}
use Rattle.kat_wire.specs.Files.{IsFileText}
use Rattle.kat_wire.specs.Judgements.{IsRefusal}
use Rattle.kat_cli.specs.Refusals.{design_refusal, file_refusal, step_refusal}
use Rattle.kat_cli.specs.declared.status.Refusal.{Refusal}
use Rattle.kat_cli.specs.declared.status.Status.{Status}
use Rattle.kat_cli.specs.declared.status.Status.TheVariants as status

-- a design file, and after it the files of a step
pub record Inputs : Type 0 where
  pub file : FileForm
  pub files : StepFiles

-- each file after the design is judged by its number
abbrev pub Passes : List (List ℕ) → List ℕ → Type 0
Passes [] text = (f : FileForm) × IsFileText text f
Passes (first ∷ earlier) text = (f : FileForm) × IsFileText first f × files.Passes f.design (length earlier) text

abbrev pub IsRefusedAs : List (List ℕ) → List ℕ → Refusal → Type 0
IsRefusedAs [] text refusal = (error : WireError) × IsRefusal text error × (refusal ≡ design_refusal error)
IsRefusedAs (first ∷ earlier) text refusal =
    (f : FileForm) × (error : FileError) × IsFileText first f × files.IsRefusedAt f.design (length earlier) text error × (refusal ≡ file_refusal error)

abbrev pub Accepts : List (List ℕ) → Inputs → Type 0
Accepts (first ∷ state ∷ actions ∷ packets) inputs =
    IsFileText first inputs.file × files.AreStepFiles inputs.file.design state actions packets inputs.files
Accepts texts inputs = ⊥

-- the replica with all packets taken in, and then with its actions
abbrev pub taken : Inputs → Node
taken inputs = with_packets inputs.files.node inputs.files.packets

abbrev pub behind : Inputs → Node
behind inputs = files.node_behind inputs.file.design inputs.files

-- why the first action that can't be done can't, after all packets and the actions before it
abbrev pub stops : Inputs → Option StepError
stops inputs = first_refusal inputs.file.design (taken inputs) inputs.files.actions

-- then the file of actions is refused, at its line
abbrev pub IsRefusedLate : Inputs → ℕ → Refusal → Type 0
IsRefusedLate inputs file refusal = (error : StepError) × (stops inputs ≡ Some error) × (file ≡ 2) × (refusal ≡ step_refusal error)

-- If the states of all files are what some operations give, and of any two files one has, of each replica, all operations of that
-- replica which the other has: the state is what all of these give and then the actions, each at one past the clock before it.
abbrev pub UnitesOperations : Inputs → Type 0
UnitesOperations inputs = (ones : List Done) (lists : List (List Done)) → IsOnce ones → AreAllNested ones lists
    → parts_of inputs.files.node ≡ denotation_of inputs.file.design ones
    → map parts_of inputs.files.packets ≡ map (denotation_of inputs.file.design) lists
    → parts_of (behind inputs)
    ≡ denotation_of inputs.file.design (all_united ones lists ++ done_from inputs.files.node.number (taken inputs).replica.clock inputs.files.actions)

-- what is written: the state file of the replica after all packets and its actions
abbrev pub output : Inputs → List ℕ
output inputs = node_text (behind inputs)

-- `node-step` ends by itself only if each action can be done
pub record Ends (inputs : Inputs) (end : Status) (text : List ℕ) : Type 0 where
  pub done : end ≡ status.Done
  pub goes : stops inputs ≡ None
  pub lines : text ≡ output inputs
  pub number : (behind inputs).number ≡ inputs.files.node.number
  pub clock : (behind inputs).replica.clock ≡ (taken inputs).replica.clock + length inputs.files.actions
  pub united : UnitesOperations inputs
