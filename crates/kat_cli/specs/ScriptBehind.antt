-- What a command takes that reads the files of `check`, and a script after them. There are scripts of more than one kind: which texts
-- are scripts for a signature, and how other texts are refused, is given.
use Rattle.std.specs.Prelude.{◌≡◌, ℕ, List, [], ◌∷◌}
use Rattle.kat_check.specs.Acceptance.{IsFirstFault}
use Rattle.kat_type.specs.Types.{TypeForm}
use Rattle.kat_type.specs.declared.signatures.Signature.{Signature}
use Rattle.kat_wire.specs.FileForms.{FileForm}
use Rattle.kat_cli.specs.CheckCommand as check
use Rattle.kat_cli.specs.declared.status.Refusal.{Refusal}

-- a sequential type, a file with a design of its signature, a relation and a proof, and a script
pub record Inputs (Script : Type 0) : Type 0 where
  pub ty : TypeForm
  pub file : FileForm
  pub script : Script

-- the three files say this: those of `check`, and after them a script for the design's signature
pub record AreFilesFor {Script : Type 0} (IsText : Signature → List ℕ → Script → Type 0) (first second third : List ℕ) (inputs : Inputs Script) : Type 0 where
  pub checked : check.IsFileFor first second inputs.ty inputs.file
  pub is_script : IsText inputs.file.design.sig third inputs.script

abbrev pub Passes : {Script : Type 0} → (Signature → List ℕ → Script → Type 0) → List (List ℕ) → List ℕ → Type 0
Passes {Script} IsText (first ∷ second ∷ earlier) text = (inputs : Inputs Script) × AreFilesFor IsText first second text inputs
Passes {Script} IsText earlier text = check.Passes earlier text

-- the script is refused after files that are judged good
abbrev pub IsScriptRefused : {Error : Type 0} → (Signature → List ℕ → Error → Type 0) → (Error → Refusal) → List ℕ → List ℕ → List ℕ → Refusal → Type 0
IsScriptRefused {Error} IsRefused refusal_of first second third refusal =
    (ty : TypeForm) × (file : FileForm) × (error : Error) × check.IsFileFor first second ty file × IsRefused file.design.sig third error × (refusal ≡ refusal_of error)

abbrev pub IsRefusedAs : {Error : Type 0} → (Signature → List ℕ → Error → Type 0) → (Error → Refusal) → List (List ℕ) → List ℕ → Refusal → Type 0
IsRefusedAs {Error} IsRefused refusal_of (first ∷ second ∷ earlier) text refusal = IsScriptRefused IsRefused refusal_of first second text refusal
IsRefusedAs {Error} IsRefused refusal_of earlier text refusal = check.IsRefusedAs earlier text refusal

abbrev pub Accepts : {Script : Type 0} → (Signature → List ℕ → Script → Type 0) → List (List ℕ) → Inputs Script → Type 0
Accepts {Script} IsText (first ∷ second ∷ third ∷ []) inputs = AreFilesFor IsText first second third inputs
Accepts {Script} IsText texts inputs = ⊥

-- the proof has a first fault, as `check` tells it
abbrev pub ProofFails : {Script : Type 0} → Inputs Script → ℕ → ℕ → Type 0
ProofFails {Script} inputs condition line = IsFirstFault inputs.ty inputs.file condition line
