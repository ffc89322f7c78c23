-- What `audit TYPE REPORT` takes and writes.
use Rattle.std.specs.Prelude.{◌≡◌, ◌⊎◌, ℕ, List, [], ◌∷◌, codes, Some}
use Rattle.kat_audit.specs.Audits.{IsAudited}
use Rattle.kat_audit.specs.declared.options.Options.{Options}
use Rattle.kat_search_laws.specs.Reports.{IsShownReport}
use Rattle.kat_said.specs.declared.judging.Audit.{Audit}
use Rattle.kat_said.specs.declared.judging.Audit.TheVariants as audit
use Rattle.kat_type_file.specs.TypeFiles.{IsRefusedFile, IsTypeFile}
use Rattle.kat_type.specs.Types.{TypeForm}
use Rattle.kat_type.specs.declared.errors.TypeError.{TypeError}
use Rattle.kat_words.specs.declared.options.SynthOptions.{SynthOptions}
use Rattle.kat_cli.specs.Refusals.{report_refusal, type_refusal}
use Rattle.kat_cli.specs.SynthCommand as synth
use Rattle.kat_cli.specs.declared.status.Refusal.{Refusal}
use Rattle.kat_cli.specs.declared.status.Status.{Status}
use Rattle.kat_cli.specs.declared.status.Status.TheVariants.{Done}

-- a sequential type, and the bytes of a report
pub record Inputs : Type 0 where
  pub ty : TypeForm
  pub report : List ℕ

-- a report is read as bytes: its faults are reported after those of both files
abbrev pub Passes : List (List ℕ) → List ℕ → Type 0
Passes [] text = (ty : TypeForm) × IsTypeFile text ty
Passes (first ∷ earlier) text = Unit {0}

abbrev pub IsRefusedAs : List (List ℕ) → List ℕ → Refusal → Type 0
IsRefusedAs [] text refusal = (error : TypeError) × IsRefusedFile text error × (refusal ≡ type_refusal error)
IsRefusedAs (first ∷ earlier) text refusal = ⊥

abbrev pub Accepts : List (List ℕ) → Inputs → Type 0
Accepts (first ∷ text ∷ []) inputs = IsTypeFile first inputs.ty × (inputs.report ≡ text)
Accepts texts inputs = ⊥

-- the bounds of the search that wrote the report
abbrev pub bounds : SynthOptions → Options
bounds options = record { size = options.size; effort = options.effort; designs = options.designs; kinds = options.kinds }

-- what comes of the report, line by line
abbrev pub Says : SynthOptions → Inputs → Audit → Type 0
Says options inputs verdict = IsAudited inputs.ty (bounds options) inputs.report verdict

-- what is written if the report is confirmed
abbrev pub output : List ℕ
output = codes "confirmed\n"

-- `audit` ends by itself only if the report is confirmed. Then it is one that `synth` may write with these options, whichever its
-- last line names, and all of its evidence can be looked at.
pub record Ends (options : SynthOptions) (inputs : Inputs) (status : Status) (text : List ℕ) : Type 0 where
  pub confirmed : Says options inputs audit.Confirmed
  pub report : IsShownReport inputs.ty (synth.bounds options) inputs.report
  pub done : status ≡ Done
  pub written : text ≡ output

-- else the report is refused at a line
pub record IsRefusedLate (options : SynthOptions) (inputs : Inputs) (file : ℕ) (refusal : Refusal) : Type 0 where
  pub verdict : Audit
  pub says : Says options inputs verdict
  pub second : file ≡ 1
  pub refused : report_refusal verdict ≡ Some refusal

-- what the report says isn't wrong, but its evidence can't be looked at: a file isn't in it, or a point is too wide
abbrev pub IsUnshown : Refusal → Type 0
IsUnshown refusal = (line : ℕ) × ((report_refusal (audit.NotShown line) ≡ Some refusal) ⊎ (report_refusal (audit.WidePoint line) ≡ Some refusal))
