-- What `run TYPE DESIGN SCRIPT` takes and writes.
use Rattle.std.specs.Prelude.{◌≡◌, ℕ, List}
use Rattle.kat_check.specs.Acceptance.{IsAcceptedFile}
use Rattle.kat_script.specs.Script.{IsRefused, IsScriptText}
use Rattle.kat_script.specs.declared.script.Script.{Script}
use Rattle.kat_world.specs.Answers.{AnswersSequentially}
use Rattle.kat_world.specs.AsType.{ShowsNothing}
use Rattle.kat_world.specs.Lines.{lines_of, shown_by}
use Rattle.kat_world.specs.Model.{model_lines}
use Rattle.kat_cli.specs.Refusals.{script_refusal}
use Rattle.kat_cli.specs.ScriptBehind as behind
use Rattle.kat_cli.specs.declared.status.Refusal.{Refusal}
use Rattle.kat_cli.specs.declared.status.Status.{Status}
use Rattle.kat_cli.specs.declared.status.Status.TheVariants.{Done}

-- a sequential type, a file with a design of its signature, a relation and a proof, and a script
abbrev pub Inputs : Type 0
Inputs = behind.Inputs Script

-- the three files say this: those of `check`, and after them a script for the design's signature
abbrev pub AreFilesFor : List ℕ → List ℕ → List ℕ → Inputs → Type 0
AreFilesFor first second third inputs = behind.AreFilesFor IsScriptText first second third inputs

abbrev pub Passes : List (List ℕ) → List ℕ → Type 0
Passes earlier text = behind.Passes IsScriptText earlier text

abbrev pub IsRefusedAs : List (List ℕ) → List ℕ → Refusal → Type 0
IsRefusedAs earlier text refusal = behind.IsRefusedAs IsRefused script_refusal earlier text refusal

abbrev pub Accepts : List (List ℕ) → Inputs → Type 0
Accepts texts inputs = behind.Accepts IsScriptText texts inputs

-- `run` ends by itself only if the file is accepted for the type. It writes the lines of the design on the script: each
-- ask has the answer of the type after the operations that its replica absorbed, in every order that respects the ranks,
-- and each show the clock and the state. If the script has no show, these are the lines of `model`.
pub record Ends (inputs : Inputs) (status : Status) (text : List ℕ) : Type 0 where
  pub accepted : IsAcceptedFile inputs.ty inputs.file
  pub done : status ≡ Done
  pub lines : text ≡ lines_of inputs.file.design inputs.script
  pub sequential : AnswersSequentially inputs.ty (shown_by inputs.file.design) inputs.script text
  pub modelled : ShowsNothing inputs.script → text ≡ model_lines inputs.ty inputs.script

-- else the proof has a first fault, as `check` tells it
abbrev pub ProofFails : Inputs → ℕ → ℕ → Type 0
ProofFails inputs condition line = behind.ProofFails inputs condition line
