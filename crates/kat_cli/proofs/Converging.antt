-- How `converge` is refused.
use Rattle.std.proofs.Common.{◌≡◌, ℕ, inl, List, [], ◌∷◌, refl}
use Rattle.kat_script.specs.Script.{TellsRefusal}
use Rattle.kat_script.specs.declared.error.ScriptError.{ScriptError}
use Rattle.kat_script.specs.declared.error.ScriptError.TheVariants as script
use Rattle.kat_wire.specs.FileForms.{FileForm}
use Rattle.kat_wire.specs.Files.{IsFileRefusal, IsFileText}
use Rattle.kat_json.specs.declared.errors.WireError.{WireError}
use Rattle.kat_json.specs.declared.errors.WireError.TheVariants as design
use Rattle.kat_cli.specs.Ending.{Judges, OutputSeen}
use Rattle.kat_cli.specs.Refusals.{design_status, script_status}
use Rattle.kat_words.specs.declared.words.Command.TheVariants.{Converge}

-- a design file that isn't read
pub design_refused : (text other : List ℕ) (seen : OutputSeen) (error : WireError) → IsFileRefusal text error → seen.written_after ≡ seen.written
    → Judges Converge (text ∷ other ∷ []) seen (design_status 0 error)
design_refused text other seen (design.BadDesign place) tells same = (inl (design.BadDesign place, record { refused = tells; told = λ e. absurd (cc) }, refl), same)
design_refused text other seen design.Json tells same = (inl (design.Json, record { refused = tells; told = λ e. absurd (cc) }, refl), same)
design_refused text other seen (design.Form place) tells same = (inl (design.Form place, record { refused = tells; told = λ e. absurd (cc) }, refl), same)
design_refused text other seen design.Version tells same = (inl (design.Version, record { refused = tells; told = λ e. absurd (cc) }, refl), same)
design_refused text other seen design.Memory tells same = inl same

-- a script that isn't read
pub script_refused : (text other : List ℕ) (f : FileForm) (seen : OutputSeen) (error : ScriptError) → IsFileText text f
    → TellsRefusal f.design.sig other error → seen.written_after ≡ seen.written → Judges Converge (text ∷ other ∷ []) seen (script_status 1 error)
script_refused text other f seen (script.Refused number at) is t same = (inl ((f, is), (f, script.Refused number at, is, t, refl)), same)
script_refused text other f seen (script.Line number line) is t same = (inl ((f, is), (f, script.Line number line, is, t, refl)), same)
script_refused text other f seen (script.Late line clock) is t same = (inl ((f, is), (f, script.Late line clock, is, t, refl)), same)
script_refused text other f seen script.Memory is t same = inl same
