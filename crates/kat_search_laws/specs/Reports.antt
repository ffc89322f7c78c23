-- Reports of a search that hide nothing, and what an audit says of them.
use Rattle.std.specs.Prelude.{◌≡◌, ◌⊎◌, ℕ, List, [], ◌∷◌, ◌++◌}
use Rattle.kat_block.specs.Blocks.{IsWideIn}
use Rattle.kat_candidate.specs.Candidates.{AreCandidates}
use Rattle.kat_candidate.specs.Places.{conjunct_at}
use Rattle.kat_design.specs.Designs.{DesignForm}
use Rattle.kat_design_json.specs.Signatures.{IsSignature}
use Rattle.kat_drop.specs.Certificates.{DropForm}
use Rattle.kat_hist.specs.Words.{HasWords}
use Rattle.kat_relation.specs.declared.relations.Conjunct.{Conjunct}
use Rattle.kat_said.specs.Sayings.{IsNarrowSaid, SaidForm}
use Rattle.kat_said.specs.declared.judging.Audit.TheVariants.{Bad, Confirmed}
use Rattle.kat_telling.specs.Entries.{Entry}
use Rattle.kat_telling.specs.Entries.Entry.{again, newly, undecided}
use Rattle.kat_telling.specs.Evidence.{Ending, Evidence}
use Rattle.kat_telling.specs.Narrow.{AreNarrow}
use Rattle.kat_search.specs.NarrowVerdicts.{IsNarrowVerdict}
use Rattle.kat_search.specs.Verdicts.{HasNone, IsCutOff, IsLeftOpen}
use Rattle.kat_search.specs.declared.options.Options.{Options}
use Rattle.kat_search.specs.declared.outcome.Outcome.{Outcome}
use Rattle.kat_search.specs.declared.outcome.Outcome.TheVariants as outcome
use Rattle.kat_type.specs.Signatures.{signature_of}
use Rattle.kat_type.specs.Types.{TypeForm}
use Rattle.kat_audit.specs.Audits.{IsAudited}
use Rattle.kat_audit.specs.declared.options.Options as audit
use Rattle.kat_search_laws.specs.Evidences.{IsNotLong, said_drop, said_end}

-- no number of a line passes 2^126 in absolute value, and its point, if it has one, makes no number pass that is computed for an
-- atom
pub record IsSlim (ty : TypeForm) (d : DesignForm) (candidates : List Conjunct) (dropped : List ℕ) (said : SaidForm) : Type 0 where
  pub narrow : IsNarrowSaid said
  pub slim : IsWideIn ty d candidates dropped said → ⊥

-- it is so of each candidate that is dropped, and of the ending, given the candidates that were dropped before
abbrev pub EachLine : (List ℕ → SaidForm → Type 0) → List ℕ → List DropForm → Ending → Type 0
EachLine Says dropped [] end = Says dropped (said_end end)
EachLine Says dropped (x ∷ xs) end = Says dropped (said_drop x) × EachLine Says (dropped ++ conjunct_at x.at) xs end

-- the evidence can be looked at: it doesn't end with `long`, and no number passes 2^126
pub record IsShownEvidence (ty : TypeForm) (d : DesignForm) (evidence : Evidence) : Type 0 where
  pub candidates : List Conjunct
  pub are_candidates : AreCandidates ty d candidates
  pub slim : EachLine (IsSlim ty d candidates) [] evidence.drops evidence.ending
  pub not_long : IsNotLong evidence.ending

abbrev pub IsShown : TypeForm → Entry → Type 0
IsShown ty (again d place) = Unit {0}
IsShown ty (newly d history) = Unit {0}
IsShown ty (undecided d evidence) = IsShownEvidence ty d evidence

abbrev pub AreShown : TypeForm → List Entry → Type 0
AreShown ty [] = Unit {0}
AreShown ty (e ∷ es) = IsShown ty e × AreShown ty es

-- the bytes are a report of a search with these options, whichever its last line names, and all of its evidence can be looked at
abbrev pub IsShownReport : TypeForm → Options → List ℕ → Type 0
IsShownReport ty options bytes =
    ((report : HasNone ty options bytes) × AreShown ty report.entries)
    ⊎ ((report : IsLeftOpen ty options bytes) × AreShown ty report.entries)
    ⊎ ((report : IsCutOff ty options bytes) × AreShown ty report.entries)

-- the options of the search that is audited
abbrev pub bounds : audit.Options → Options
bounds options = record { size = options.size; effort = options.effort; designs = options.designs; kinds = options.kinds }

-- the bytes are a report of a search with these options, whichever its last line names, and no number of its evidence passes 2^126
abbrev pub IsNarrowReport : TypeForm → Options → List ℕ → Type 0
IsNarrowReport ty options bytes =
    ((report : HasNone ty options bytes) × AreNarrow report.entries) ⊎ ((report : IsLeftOpen ty options bytes) × AreNarrow report.entries) ⊎ ((report : IsCutOff ty options bytes) × AreNarrow report.entries)

-- what is confirmed is a report of the search that hides nothing
abbrev pub ConfirmedAreReports : Type 0
ConfirmedAreReports = (ty : TypeForm) (options : audit.Options) (bytes : List ℕ) → IsAudited ty options bytes Confirmed → IsShownReport ty (bounds options) bytes

-- and conversely, if operations and queries are named by words, as those of a type file are
abbrev pub ReportsAreConfirmed : Type 0
ReportsAreConfirmed = (ty : TypeForm) (options : audit.Options) (bytes : List ℕ) → HasWords (signature_of ty) → IsShownReport ty (bounds options) bytes → IsAudited ty options bytes Confirmed

-- no line of a report of the search, whose numbers don't pass 2^126, is one that isn't due or missing
abbrev pub ReportsHaveNoFault : Type 0
ReportsHaveNoFault = (ty : TypeForm) (options : audit.Options) (bytes : List ℕ) (line : ℕ) → HasWords (signature_of ty) → IsNarrowReport ty (bounds options) bytes → IsAudited ty options bytes (Bad line) → ⊥

-- the bytes are the report that is answered; those of a file are none
abbrev pub IsReportOf : Outcome → List ℕ → Type 0
IsReportOf (outcome.Emitted number file) bytes = ⊥
IsReportOf (outcome.NoDesign report) bytes = report.items ≡ bytes
IsReportOf (outcome.Undecided report) bytes = report.items ≡ bytes
IsReportOf (outcome.Stopped report) bytes = report.items ≡ bytes

-- what `synth` answers without a file is such a report
abbrev pub AnswersAreReports : Type 0
AnswersAreReports = (ty : TypeForm) (options : Options) (answer : Outcome) (bytes : List ℕ) → IsNarrowVerdict ty options answer → IsReportOf answer bytes → IsNarrowReport ty options bytes

-- no line of a report that `synth` answers, for a type with a signature as `synth` asks, is told to be one that isn't due, or missing
abbrev pub AnswersHaveNoFault : Type 0
AnswersHaveNoFault = (ty : TypeForm) (options : audit.Options) (answer : Outcome) (bytes : List ℕ) (line : ℕ) → IsSignature (signature_of ty) → IsNarrowVerdict ty (bounds options) answer → IsReportOf answer bytes
    → IsAudited ty options bytes (Bad line) → ⊥
