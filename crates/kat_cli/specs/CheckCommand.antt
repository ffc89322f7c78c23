-- What `check TYPE DESIGN` takes and writes.
use Rattle.std.specs.Prelude.{◌≡◌, ℕ, List, [], ◌∷◌, codes}
use Rattle.kat_check.specs.Acceptance.{IsAcceptedFile, IsFirstFault}
use Rattle.kat_type.specs.Signatures.{signature_of}
use Rattle.kat_type_file.specs.TypeFiles.{IsRefusedFile, IsTypeFile}
use Rattle.kat_type.specs.Types.{TypeForm}
use Rattle.kat_type.specs.declared.errors.TypeError.{TypeError}
use Rattle.kat_wire.specs.FileForms.{FileForm}
use Rattle.kat_wire.specs.Files.{IsFileText}
use Rattle.kat_wire.specs.Judgements.{IsRefusal}
use Rattle.kat_json.specs.declared.errors.WireError.{WireError}
use Rattle.kat_cli.specs.Refusals.{design_refusal, other_signature, type_refusal}
use Rattle.kat_cli.specs.declared.status.Refusal.{Refusal}
use Rattle.kat_cli.specs.declared.status.Status.{Status}
use Rattle.kat_cli.specs.declared.status.Status.TheVariants.{Done}

-- a sequential type, and a file with a design of its signature, a relation and a proof
pub record Inputs : Type 0 where
  pub ty : TypeForm
  pub file : FileForm

-- the second file says this after the first: a file with the type's signature
pub record IsFileFor (first text : List ℕ) (ty : TypeForm) (file : FileForm) : Type 0 where
  pub says : IsTypeFile first ty
  pub is_file : IsFileText text file
  pub agree : signature_of ty ≡ file.design.sig

abbrev pub Passes : List (List ℕ) → List ℕ → Type 0
Passes [] text = (ty : TypeForm) × IsTypeFile text ty
Passes (first ∷ earlier) text = (ty : TypeForm) × (file : FileForm) × IsFileFor first text ty file

-- the second file is refused for what it is, or for another signature than the type's
pub data IsRefusedBehind (first text : List ℕ) (refusal : Refusal) : Type 0 where
  unread : (error : WireError) → IsRefusal text error → refusal ≡ design_refusal error → IsRefusedBehind first text refusal
  differs : (ty : TypeForm) (file : FileForm) → IsTypeFile first ty → IsFileText text file → (signature_of ty ≡ file.design.sig → ⊥)
      → refusal ≡ other_signature → IsRefusedBehind first text refusal

abbrev pub IsRefusedAs : List (List ℕ) → List ℕ → Refusal → Type 0
IsRefusedAs [] text refusal = (error : TypeError) × IsRefusedFile text error × (refusal ≡ type_refusal error)
IsRefusedAs (first ∷ earlier) text refusal = IsRefusedBehind first text refusal

abbrev pub Accepts : List (List ℕ) → Inputs → Type 0
Accepts (first ∷ text ∷ []) inputs = IsFileFor first text inputs.ty inputs.file
Accepts texts inputs = ⊥

-- what is written if the proof is accepted
abbrev pub output : List ℕ
output = codes "accepted\n"

-- `check` ends by itself only if the file is accepted for the type
abbrev pub Ends : Inputs → Status → List ℕ → Type 0
Ends inputs status text = IsAcceptedFile inputs.ty inputs.file × (status ≡ Done) × (text ≡ output)

-- else the proof has a first fault: a conjunct that doesn't fit, as condition 0, or a condition and a line
abbrev pub ProofFails : Inputs → ℕ → ℕ → Type 0
ProofFails inputs condition line = IsFirstFault inputs.ty inputs.file condition line
