-- What `node-ask TYPE DESIGN STATE QUESTIONS` takes and writes.
use Rattle.std.specs.Prelude.{◌≡◌, ℕ, List, [], ◌∷◌}
use Rattle.kat_actions.specs.Texts as calls
use Rattle.kat_actions.specs.declared.calls.Call.{Call}
use Rattle.kat_actions.specs.declared.calls.Verb.TheVariants.{Ask}
use Rattle.kat_check.specs.Acceptance.{IsAcceptedFile, IsFirstFault}
use Rattle.kat_design.specs.Denotations.{denotation_of}
use Rattle.kat_node.specs.Judgements.{IsRefusal}
use Rattle.kat_node.specs.NodeFiles.{IsNodeText}
use Rattle.kat_node.specs.Packets.{parts_of}
use Rattle.kat_node.specs.declared.errors.NodeError.{NodeError}
use Rattle.kat_node.specs.declared.nodes.Node.{Node}
use Rattle.kat_node_texts.specs.Answered.{AnswersEach, answers_text}
use Rattle.kat_script.specs.declared.error.ScriptError.{ScriptError}
use Rattle.kat_step.specs.Runs.{IsLegal}
use Rattle.kat_type.specs.Types.{TypeForm}
use Rattle.kat_type.specs.declared.done.Done.{Done}
use Rattle.kat_wire.specs.FileForms.{FileForm}
use Rattle.kat_cli.specs.CheckCommand as check
use Rattle.kat_cli.specs.Refusals.{node_refusal, script_refusal}
use Rattle.kat_cli.specs.declared.status.Refusal.{Refusal}
use Rattle.kat_cli.specs.declared.status.Status.{Status}
use Rattle.kat_cli.specs.declared.status.Status.TheVariants as status

-- a sequential type, a file with a design of its signature, a relation and a proof, a replica of the design, and questions
pub record Inputs : Type 0 where
  pub ty : TypeForm
  pub file : FileForm
  pub node : Node
  pub questions : List Call

-- the four files say this: those of `check`, and after them a state file and questions
pub record AreFilesFor (first second third fourth : List ℕ) (inputs : Inputs) : Type 0 where
  pub checked : check.IsFileFor first second inputs.ty inputs.file
  pub is_node : IsNodeText inputs.file.design third inputs.node
  pub are_questions : calls.AreCallsOf Ask inputs.file.design.sig fourth inputs.questions

abbrev pub Passes : List (List ℕ) → List ℕ → Type 0
Passes (first ∷ second ∷ []) text = (ty : TypeForm) × (file : FileForm) × (node : Node) × check.IsFileFor first second ty file × IsNodeText file.design text node
Passes (first ∷ second ∷ third ∷ earlier) text =
    (ty : TypeForm) × (file : FileForm) × (questions : List Call) × check.IsFileFor first second ty file × calls.AreCallsOf Ask file.design.sig text questions
Passes earlier text = check.Passes earlier text

abbrev pub IsRefusedAs : List (List ℕ) → List ℕ → Refusal → Type 0
IsRefusedAs (first ∷ second ∷ []) text refusal =
    (ty : TypeForm) × (file : FileForm) × (error : NodeError) × check.IsFileFor first second ty file × IsRefusal file.design text error × (refusal ≡ node_refusal error)
IsRefusedAs (first ∷ second ∷ third ∷ earlier) text refusal =
    (ty : TypeForm) × (file : FileForm) × (error : ScriptError) × check.IsFileFor first second ty file × calls.IsRefused Ask file.design.sig text error × (refusal ≡ script_refusal error)
IsRefusedAs earlier text refusal = check.IsRefusedAs earlier text refusal

abbrev pub Accepts : List (List ℕ) → Inputs → Type 0
Accepts (first ∷ second ∷ third ∷ fourth ∷ []) inputs = AreFilesFor first second third fourth inputs
Accepts texts inputs = ⊥

-- `node-ask` ends by itself only if the file is accepted for the type. It writes the lines of the design's answers in the state
-- of the replica. If the state is what some legal operations give, these are the answers of the type after them, in every order
-- that respects the ranks.
pub record Ends (inputs : Inputs) (end : Status) (text : List ℕ) : Type 0 where
  pub accepted : IsAcceptedFile inputs.ty inputs.file
  pub done : end ≡ status.Done
  pub lines : text ≡ answers_text inputs.file.design inputs.node inputs.questions
  pub sequential : (ones : List Done) → IsLegal inputs.file.design.sig ones → parts_of inputs.node ≡ denotation_of inputs.file.design ones
      → AnswersEach inputs.ty ones inputs.node.number inputs.questions text

-- else the proof has a first fault, as `check` tells it
abbrev pub ProofFails : Inputs → ℕ → ℕ → Type 0
ProofFails inputs condition line = IsFirstFault inputs.ty inputs.file condition line
