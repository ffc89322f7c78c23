-- What `model TYPE SCRIPT` takes and writes.
use Rattle.std.specs.Prelude.{◌≡◌, ℕ, List, [], ◌∷◌}
use Rattle.kat_script.specs.Script.{IsRefused, IsScriptText}
use Rattle.kat_script.specs.declared.error.ScriptError.{ScriptError}
use Rattle.kat_script.specs.declared.script.Script.{Script}
use Rattle.kat_type.specs.Signatures.{signature_of}
use Rattle.kat_type_file.specs.TypeFiles.{IsRefusedFile, IsTypeFile}
use Rattle.kat_type.specs.Types.{TypeForm}
use Rattle.kat_type.specs.declared.errors.TypeError.{TypeError}
use Rattle.kat_world.specs.Model.{model_lines}
use Rattle.kat_cli.specs.Refusals.{script_refusal, type_refusal}
use Rattle.kat_cli.specs.declared.status.Refusal.{Refusal}
use Rattle.kat_cli.specs.declared.status.Status.{Status}
use Rattle.kat_cli.specs.declared.status.Status.TheVariants.{Done}

-- a sequential type and a script for its signature
pub record Inputs : Type 0 where
  pub ty : TypeForm
  pub script : Script

abbrev pub Passes : List (List ℕ) → List ℕ → Type 0
Passes [] text = (ty : TypeForm) × IsTypeFile text ty
Passes (first ∷ earlier) text = (ty : TypeForm) × (script : Script) × IsTypeFile first ty × IsScriptText (signature_of ty) text script

abbrev pub IsRefusedAs : List (List ℕ) → List ℕ → Refusal → Type 0
IsRefusedAs [] text refusal = (error : TypeError) × IsRefusedFile text error × (refusal ≡ type_refusal error)
IsRefusedAs (first ∷ earlier) text refusal =
    (ty : TypeForm) × (error : ScriptError) × IsTypeFile first ty × IsRefused (signature_of ty) text error × (refusal ≡ script_refusal error)

abbrev pub Accepts : List (List ℕ) → Inputs → Type 0
Accepts (first ∷ second ∷ []) inputs = IsTypeFile first inputs.ty × IsScriptText (signature_of inputs.ty) second inputs.script
Accepts texts inputs = ⊥

-- what is written: for each ask, in order, the answer of the type after the operations that are absorbed there, arranged
-- by rank, then time, then replica
abbrev pub Ends : Inputs → Status → List ℕ → Type 0
Ends inputs status text = (status ≡ Done) × (text ≡ model_lines inputs.ty inputs.script)
