-- How `model` is refused.
use Rattle.std.proofs.Common.{◌≡◌, ℕ, inl, List, [], ◌∷◌, refl, subst, sym, arith}
use Rattle.kat_script.specs.Rules.{HasFewCalls}
use Rattle.kat_script.specs.Script.{TellsRefusal}
use Rattle.kat_script.specs.declared.error.ScriptError.{ScriptError}
use Rattle.kat_script.specs.declared.error.ScriptError.TheVariants as script
use Rattle.kat_type.specs.Fits.{IsWellSorted}
use Rattle.kat_type.specs.Signatures.{signature_of}
use Rattle.kat_type_file.specs.TypeFiles.{IsTypeFile, TellsFileRefusal}
use Rattle.kat_type.specs.Types.{TypeForm}
use Rattle.kat_type.specs.declared.errors.TypeError.{TypeError}
use Rattle.kat_type.specs.declared.errors.TypeError.TheVariants as type_file
use Rattle.kat_type.specs.declared.signatures.Signature.{Signature}
use Rattle.kat_type.proofs.Signing.{small_signature}
use Rattle.kat_cli.specs.Ending.{Judges, OutputSeen}
use Rattle.kat_cli.specs.Refusals.{script_status, type_status}
use Rattle.kat_words.specs.declared.words.Command.TheVariants.{Model}

-- a type file that isn't read
pub type_refused : (text other : List ℕ) (seen : OutputSeen) (error : TypeError) → TellsFileRefusal text error → seen.written_after ≡ seen.written
    → Judges Model (text ∷ other ∷ []) seen (type_status 0 error)
type_refused text other seen (type_file.Refused number at) tells same = (inl (type_file.Refused number at, tells, refl), same)
type_refused text other seen type_file.Memory tells same = inl same

-- a script that isn't read
pub script_refused : (text other : List ℕ) (ty : TypeForm) (sig : Signature) (seen : OutputSeen) (error : ScriptError) → IsTypeFile text ty → sig ≡ signature_of ty
    → TellsRefusal sig other error → seen.written_after ≡ seen.written → Judges Model (text ∷ other ∷ []) seen (script_status 1 error)
script_refused text other ty sig seen error is e tells same = by_sort error (subst (λ (s : Signature). TellsRefusal s other error) e tells) where
  by_sort : (error : ScriptError) → TellsRefusal (signature_of ty) other error → Judges Model (text ∷ other ∷ []) seen (script_status 1 error)
  by_sort (script.Refused number at) t = (inl ((ty, is), (ty, script.Refused number at, is, t, refl)), same)
  by_sort (script.Line number line) t = (inl ((ty, is), (ty, script.Line number line, is, t, refl)), same)
  by_sort (script.Late line clock) t = (inl ((ty, is), (ty, script.Late line clock, is, t, refl)), same)
  by_sort script.Memory t = inl same

pub few_calls : (ty : TypeForm) (sig : Signature) → IsWellSorted ty → sig ≡ signature_of ty → HasFewCalls sig
few_calls ty sig sorted e =
    let small = small_signature ty sorted in
    subst HasFewCalls (sym e) (record { few_ops = omega (arith, small.few_ops); few_queries = omega (arith, small.few_queries) })
