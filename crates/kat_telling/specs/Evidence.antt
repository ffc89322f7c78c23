-- Why a design that no history refutes isn't proved.
use Rattle.std.specs.Prelude.{◌≡◌, ◌≢◌, ℕ, ◌<◌, ◌≤◌, ◌^◌, ℤ, unsigned_abs, Bool, List, length, Some}
use Rattle.std.specs.List.{All, AllPairs}
use Rattle.kat_candidate.specs.Candidates.{AreCandidates}
use Rattle.kat_candidate.specs.Places.{condition_at, left_behind}
use Rattle.kat_drop.specs.Certificates.{AreDrops, DropForm, IsOpenCertificate, PointForm, dropped_by}
use Rattle.kat_candidate.specs.declared.places.Place1.{Place1}
use Rattle.kat_check.specs.Acceptance.{IsAcceptedFile}
use Rattle.kat_design.specs.Designs.{DesignForm}
use Rattle.kat_form.specs.Facts.{Fact}
use Rattle.kat_form.specs.Readings.{encoding_of}
use Rattle.kat_prove.specs.Provings.{IsOfConjunct, lines_at, setting_over}
use Rattle.kat_refute.specs.HintedLines.{hinted_lines}
use Rattle.kat_refute.specs.Lines.{Line, literals_of}
use Rattle.kat_relation.specs.declared.relations.Conjunct.{Conjunct}
use Rattle.kat_cases.specs.Nodes.{End}
use Rattle.kat_cases.specs.Nodes.End.{spent, at_point, at_rows, at_wide}
use Rattle.kat_cases.specs.Walks.{WalkGives}
use Rattle.kat_cases.specs.Walks.Answer.{refuted, stopped}
use Rattle.kat_type.specs.Lists.{Has}
use Rattle.kat_type.specs.Types.{TypeForm}
use Rattle.kat_vc.specs.Conditions.{Condition, condition_count, conditions, facts_by, facts_of_condition}
use Rattle.kat_wire.specs.FileForms.{FileForm}
use Rattle.kat_wire.specs.Printed.{file_text}
use Rattle.kat_wire.specs.declared.causes.Cause.{Cause}
use Rattle.kat_wire.specs.declared.causes.Cause.TheVariants as cause
use Rattle.kat_telling.specs.Hinted.{IsHintedFile}
use Rattle.kat_telling.specs.declared.limits.TheConstants.{TEXT_LIMIT}

-- What ends the search for a proof, after the candidates that were dropped: a point at which a query is answered otherwise; all
-- leaves of the walk at a place; rows, or numbers, that pass their limits there, with the literals that are known; or a proof
-- whose file is too long.
pub data Ending : Type 0 where
  fails : (query : ℕ) → PointForm → Ending
  is_spent : Place1 → Ending
  is_crowded : Place1 → (plus minus rest : ℕ) → (lits : List ℤ) → Ending
  is_wide : Place1 → (left right : ℤ) → (lits : List ℤ) → Ending
  is_long : (bytes : ℕ) → Ending

pub record Evidence : Type 0 where
  pub drops : List DropForm
  pub ending : Ending

-- the cause as a file tells it
abbrev pub cause_of : Ending → Cause
cause_of (fails query point) = cause.OpenCert
cause_of (is_spent place) = cause.Spent
cause_of (is_crowded place plus minus rest lits) = cause.Rows
cause_of (is_wide place left right lits) = cause.Wide
cause_of (is_long bytes) = cause.Long

-- Candidates may be dropped in this order, and under those that are left the walk ends in this way at the condition of the place,
-- which is one of those that are left, and gives a point for no condition of a conjunct.
pub record EndsAtPlace (ty : TypeForm) (d : DesignForm) (candidates : List Conjunct) (effort : ℕ) (drops : List DropForm) (at : Place1) (end : End) : Type 0 where
  pub dropped : AreDrops ty d candidates drops
  pub condition : Condition
  pub there : condition_at ty candidates at ≡ Some condition
  pub among : Has (conditions ty (left_behind candidates (dropped_by drops))) condition
  pub ends : WalkGives (setting_over (facts_by ty d (left_behind candidates (dropped_by drops)) (Some condition))) effort (stopped end)
  pub no_point : (other : Condition) → Has (conditions ty (left_behind candidates (dropped_by drops))) other → IsOfConjunct (Some other)
      → (den : ℤ) (nums : List ℤ) (truths : List Bool) → WalkGives (setting_over (facts_by ty d (left_behind candidates (dropped_by drops)) (Some other))) effort (stopped (at_point den nums truths)) → ⊥

-- no variable occurs twice in a line
abbrev pub HasEachOnce : Line → Type 0
HasEachOnce line = AllPairs (λ (k l : ℤ). unsigned_abs k ≢ unsigned_abs l) (literals_of line)

-- Lines for the facts of a condition: if the walk refutes them, they are the walk's, with the hints that are found for them. Else
-- there are at most as many as the walk had leaves, and no variable occurs twice in one of them.
pub record AreLinesFor (facts : List Fact) (effort : ℕ) (lines : List Line) : Type 0 where
  pub of_walk : (walked : List Line) → WalkGives (setting_over facts) effort (refuted walked) → lines ≡ hinted_lines (encoding_of facts).clauses walked
  pub further : ((walked : List Line) → WalkGives (setting_over facts) effort (refuted walked) → ⊥) → (length lines ≤ effort) × All HasEachOnce lines

-- Candidates may be dropped in this order. There is an accepted file of version 2 of the design, with a relation of candidates,
-- such lines for each condition, and exactly the hints that are found for them. That file, with the designs that were passed over
-- before it, has this many bytes, which are more than a file may have.
pub record IsTooLong (ty : TypeForm) (d : DesignForm) (candidates : List Conjunct) (effort : ℕ) (earlier : List (ℕ × Cause)) (drops : List DropForm) (bytes : ℕ) : Type 0 where
  pub dropped : AreDrops ty d candidates drops
  pub file : FileForm
  pub version : file.version ≡ 2
  pub design : file.design ≡ d
  pub of_candidates : (c : Conjunct) → Has file.relation c → Has candidates c
  pub lines : (k : ℕ) → 0 < k → k ≤ condition_count ty file.relation → AreLinesFor (facts_of_condition ty d file.relation k) effort (lines_at file.proof k)
  pub hints : IsHintedFile ty file
  pub accepted : IsAcceptedFile ty file
  pub counted : length (file_text file earlier) ≡ bytes
  pub long : TEXT_LIMIT < bytes

-- no number passes 2^126
abbrev pub IsNarrow : ℤ → Type 0
IsNarrow z = unsigned_abs z ≤ 2 ^ 126

-- The evidence holds, with these candidates, each walk being taken with the asked effort: it is an open certificate; or the walk
-- gives up at the place in the stated way, and gives no point for a condition of a conjunct; or the file is too long.
abbrev pub EndsSo : TypeForm → DesignForm → List Conjunct → ℕ → List (ℕ × Cause) → List DropForm → Ending → Type 0
EndsSo ty d candidates effort earlier drops (fails query point) = IsOpenCertificate ty d candidates drops query point
EndsSo ty d candidates effort earlier drops (is_spent place) = EndsAtPlace ty d candidates effort drops place spent
EndsSo ty d candidates effort earlier drops (is_crowded place plus minus rest lits) = EndsAtPlace ty d candidates effort drops place (at_rows lits plus minus rest)
EndsSo ty d candidates effort earlier drops (is_wide place left right lits) = EndsAtPlace ty d candidates effort drops place (at_wide lits left right) × IsNarrow left × IsNarrow right
EndsSo ty d candidates effort earlier drops (is_long bytes) = IsTooLong ty d candidates effort earlier drops bytes

-- the evidence that a design is undecided, after the designs that were passed over before it
pub record Stands (ty : TypeForm) (d : DesignForm) (effort : ℕ) (earlier : List (ℕ × Cause)) (evidence : Evidence) : Type 0 where
  pub candidates : List Conjunct
  pub are_candidates : AreCandidates ty d candidates
  pub ends : EndsSo ty d candidates effort earlier evidence.drops evidence.ending
