-- What `deltas TYPE DESIGN SCRIPT` takes and writes.
use Rattle.std.specs.Prelude.{◌≡◌, ℕ, List}
use Rattle.kat_check.specs.Acceptance.{IsAcceptedFile}
use Rattle.kat_delta.specs.Lines.{delta_lines_of}
use Rattle.kat_delta.specs.Sequential.{DeltasAnswerSequentially}
use Rattle.kat_delta.specs.declared.script.DeltaScript.{DeltaScript}
use Rattle.kat_delta_script.specs.Scripts.{IsDeltaRefused, IsDeltaScriptText}
use Rattle.kat_world.specs.Lines.{shown_by}
use Rattle.kat_cli.specs.Refusals.{delta_refusal}
use Rattle.kat_cli.specs.ScriptBehind as behind
use Rattle.kat_cli.specs.declared.status.Refusal.{Refusal}
use Rattle.kat_cli.specs.declared.status.Status.{Status}
use Rattle.kat_cli.specs.declared.status.Status.TheVariants.{Done}

-- a sequential type, a file with a design of its signature, a relation and a proof, and a script with deltas
abbrev pub Inputs : Type 0
Inputs = behind.Inputs DeltaScript

-- the three files say this: those of `check`, and after them a script with deltas for the design's signature
abbrev pub AreFilesFor : List ℕ → List ℕ → List ℕ → Inputs → Type 0
AreFilesFor first second third inputs = behind.AreFilesFor IsDeltaScriptText first second third inputs

abbrev pub Passes : List (List ℕ) → List ℕ → Type 0
Passes earlier text = behind.Passes IsDeltaScriptText earlier text

abbrev pub IsRefusedAs : List (List ℕ) → List ℕ → Refusal → Type 0
IsRefusedAs earlier text refusal = behind.IsRefusedAs IsDeltaRefused delta_refusal earlier text refusal

abbrev pub Accepts : List (List ℕ) → Inputs → Type 0
Accepts texts inputs = behind.Accepts IsDeltaScriptText texts inputs

-- `deltas` ends by itself only if the file is accepted for the type. It writes the lines of the design on the script, in the
-- worlds in which a delta has its replica's clock and all operations that this replica did itself: each ask has the answer
-- of the type after the operations that its replica absorbed, in every order that respects the ranks, and each show the clock
-- and the state.
pub record Ends (inputs : Inputs) (status : Status) (text : List ℕ) : Type 0 where
  pub accepted : IsAcceptedFile inputs.ty inputs.file
  pub done : status ≡ Done
  pub lines : text ≡ delta_lines_of inputs.file.design inputs.script
  pub sequential : DeltasAnswerSequentially inputs.ty (shown_by inputs.file.design) inputs.script text

-- else the proof has a first fault, as `check` tells it
abbrev pub ProofFails : Inputs → ℕ → ℕ → Type 0
ProofFails inputs condition line = behind.ProofFails inputs condition line
