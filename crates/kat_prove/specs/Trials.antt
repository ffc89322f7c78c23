-- Used inside only.
-- Candidates that are kept while others are dropped, and what was decided under them.
use Rattle.std.specs.Prelude.{◌≡◌, ℕ, zero, suc, ◌+◌, ◌-◌, ◌<◌, ◌≤◌, nat_eq, if◌then◌else◌, List, [], ◌∷◌, ◌++◌, length, map, Option, Some, None, slice_get, slice_index_or}
use Rattle.std.specs.List.{cons_option}
use Rattle.kat_design.specs.Designs.{DesignForm, design_form}
use Rattle.kat_form.specs.Facts.{Fact}
use Rattle.kat_form.specs.Readings.{encoding_of, numbers_of_facts}
use Rattle.kat_refute.specs.Lines.{AreARefutation, Line, lines_of}
use Rattle.kat_refute.specs.declared.ProofLine.{ProofLine}
use Rattle.kat_relation.specs.declared.relations.Conjunct.{Conjunct}
use Rattle.kat_cases.specs.Answers.{answer_of}
use Rattle.kat_cases.specs.Decisions.{Decides, HasNarrowNumbers}
use Rattle.kat_cases.specs.Nodes.{End}
use Rattle.kat_cases.specs.Points.{IfPoint, IsDecisive}
use Rattle.kat_cases.specs.Walks.{Answer, IfRefuted, WalkGives}
use Rattle.kat_cases.specs.Walks.Answer.{refuted, stopped}
use Rattle.kat_cases.specs.declared.decision.Point.{Point}
use Rattle.kat_cases.specs.declared.decision.Decision.{Decision}
use Rattle.kat_cases.specs.declared.decision.Decision.TheVariants.{Refutation, Point as AtPoint, Spent, Rows, Wide}
use Rattle.kat_type.specs.Types.{OperationForm, TypeForm, type_form}
use Rattle.kat_vc.specs.Conditions.{condition_count, facts_of_condition}
use Rattle.kat_candidate.specs.Places.{has_number, left_behind}
use Rattle.kat_drop.specs.Certificates.{AreDrops, MayDrop, PointForm, drop_form, dropped_by, drops_of, point_form}
use Rattle.kat_drop.specs.declared.drops.Drop1.{Drop1}
use Rattle.kat_candidate.specs.declared.places.Place1.{Place1}
use Rattle.kat_candidate.specs.declared.places.Place1.TheVariants.{Start, Step, Query}
use Rattle.kat_prove.specs.Provings.{Gives, GivesNoPoint, GivesUp, IsFirst, IsProving, IsRefuted, drops_in, lines_at, setting_over}
use Rattle.kat_prove.specs.declared.provings.Proving.{Proving}
use Rattle.kat_prove.specs.declared.seen.Seen.{Seen}
use Rattle.kat_prove.specs.declared.skims.Failed.{Failed}
use Rattle.kat_prove.specs.declared.skims.Skim.{Skim}
use Rattle.kat_prove.specs.declared.skims.Failed.TheVariants.{Query as OfQuery, Dropped}
use Rattle.kat_prove.specs.declared.surveys.Found.{Found}
use Rattle.kat_prove.specs.declared.surveys.Found.TheVariants.{Refuted, Fails as FailsAtPoint, Open}
use Rattle.kat_prove.specs.declared.surveys.Stop.{Stop}
use Rattle.kat_prove.specs.declared.surveys.Survey.{Survey}
use Rattle.kat_prove.specs.declared.surveys.Surveyed.{Surveyed}
use Rattle.kat_prove.specs.declared.surveys.Surveyed.TheVariants.{Fails, Quiet}
use Rattle.kat_prove.specs.declared.trials.Kept.{Kept}
use Rattle.kat_prove.specs.declared.trials.Trial.{Trial}
use Rattle.kat_prove.specs.declared.proving.Turn.{Turn}
use Rattle.kat_prove.specs.declared.proving.Turn.TheVariants.{Ends, Goes}

-- what is proved, with its candidates and the leaves of each walk
pub record TrialForm : Type 0 where
  pub ty : TypeForm
  pub design : DesignForm
  pub candidates : List Conjunct
  pub effort : ℕ

abbrev pub trial_form : Trial → TrialForm
trial_form t = record { ty = type_form t.ty.now; design = design_form t.design.now; candidates = t.candidates.now; effort = t.effort }

-- the facts of the condition of a relation with a number, from 1
abbrev pub condition_facts : TrialForm → List Conjunct → ℕ → List Fact
condition_facts trial relation number = facts_of_condition trial.ty trial.design relation number

-- this many numbers, from one on
abbrev pub numbers_from : ℕ → ℕ → List ℕ
numbers_from n zero = []
numbers_from n (suc left) = n ∷ numbers_from (suc n) left

-- what is decided of facts
pub record IsDecided (facts : List Fact) (effort : ℕ) (answer : Answer) : Type 0 where
  pub gives : Decides (setting_over facts) effort answer
  pub refutes : IfRefuted answer (AreARefutation (encoding_of facts))
  pub decisive : IfPoint answer (IsDecisive (encoding_of facts) (numbers_of_facts facts))
  pub narrow : HasNarrowNumbers answer

-- a point decides the encoding of facts
abbrev pub IsDecisiveFor : List Fact → PointForm → Type 0
IsDecisiveFor facts point = IsDecisive (encoding_of facts) (numbers_of_facts facts) point.den point.nums point.truths

-- what is found
abbrev pub IsFound : List Fact → ℕ → Found → Type 0
IsFound facts effort (Refuted lines) = Decides (setting_over facts) effort (refuted (lines_of lines.items)) × AreARefutation (encoding_of facts) (lines_of lines.items)
IsFound facts effort (FailsAtPoint point) = IsDecisiveFor facts (point_form point)
IsFound facts effort (Open decision) = (end : End) × (answer_of decision ≡ stopped end) × GivesUp end × WalkGives (setting_over facts) effort (stopped end)

-- what was found of conditions, one after the other
abbrev pub AreSeen : TrialForm → List Conjunct → Seen → Type 0
AreSeen trial relation seen = (i : ℕ) (found : Found) → slice_index_or seen.found.items i None ≡ Some found → IsFound (condition_facts trial relation (seen.from + i)) trial.effort found

-- a decision by its kind
abbrev pub Sorts : Decision → Found → Type 0
Sorts (Refutation lines) found = found ≡ Refuted lines
Sorts (AtPoint point) found = found ≡ FailsAtPoint point
Sorts Spent found = found ≡ Open Spent
Sorts (Rows lits plus minus rest) found = found ≡ Open (Rows lits plus minus rest)
Sorts (Wide lits left right) found = found ≡ Open (Wide lits left right)

-- the numbers, from `n` on, of the candidates that aren't dropped
abbrev pub numbers_left : ℕ → List ℕ → List Conjunct → List ℕ
numbers_left n dropped [] = []
numbers_left n dropped (c ∷ cs) = if has_number n dropped then numbers_left (suc n) dropped cs else n ∷ numbers_left (suc n) dropped cs

-- the numbers except for one, and the conjuncts with numbers
abbrev pub without : ℕ → List ℕ → List ℕ
without number [] = []
without number (n ∷ ns) = if nat_eq number n then without number ns else n ∷ without number ns

abbrev pub conjuncts_of : List Conjunct → List ℕ → List Conjunct
conjuncts_of candidates [] = []
conjuncts_of candidates (n ∷ ns) = cons_option (slice_get candidates n) [] ++ conjuncts_of candidates ns

-- what is kept are the candidates that aren't dropped
pub record Holds (trial : TrialForm) (kept : Kept) : Type 0 where
  pub drops : AreDrops trial.ty trial.design trial.candidates (drops_of kept.drops.items)
  pub numbers : kept.numbers.items ≡ numbers_left 0 (dropped_by (drops_of kept.drops.items)) trial.candidates
  pub relation : kept.relation.conjuncts ≡ left_behind trial.candidates (dropped_by (drops_of kept.drops.items))
  pub few : length (drops_of kept.drops.items) + length kept.numbers.items ≤ length trial.candidates

-- the same with fewer kept than this many
abbrev pub IsShorter : TrialForm → ℕ → Kept → Type 0
IsShorter trial count kept = Holds trial kept × (length kept.numbers.items < count)

-- the same with no more kept than this many
abbrev pub IsNoLonger : TrialForm → ℕ → Kept → Type 0
IsNoLonger trial count kept = Holds trial kept × (length kept.numbers.items ≤ count)

-- the same of a skim, with what was found of conditions under what is kept
abbrev pub IsSkim : TrialForm → ℕ → Skim → Type 0
IsSkim trial count skim = IsNoLonger trial count skim.kept × AreSeen trial skim.kept.relation.conjuncts skim.seen

-- the candidate of this drop may be dropped next
abbrev pub MayDropNext : TrialForm → Kept → Drop1 → Type 0
MayDropNext trial kept drop = MayDrop trial.ty trial.design trial.candidates (dropped_by (drops_of kept.drops.items)) (drop_form drop)

-- the place of a condition, by the numbers of the conjuncts: among those of operations from one on, and of queries, and among all
abbrev pub step_or : Option ℕ → ℕ → Place1 → Place1
step_or None op rest = rest
step_or (Some conjunct) op rest = Step op conjunct

abbrev pub place_from : ℕ → List OperationForm → List ℕ → ℕ → Place1
place_from op [] numbers left = Query left
place_from op (o ∷ os) numbers left = step_or (slice_get numbers left) op (place_from (suc op) os numbers (left - length numbers))

abbrev pub start_or : Option ℕ → Place1 → Place1
start_or None rest = rest
start_or (Some conjunct) rest = Start conjunct

abbrev pub place_at : List OperationForm → List ℕ → ℕ → Place1
place_at ops numbers place = start_or (slice_get numbers place) (place_from 0 ops numbers (place - length numbers))

-- what follows from a condition that fails
abbrev pub IsFailed : TrialForm → Kept → ℕ → Point → Failed → Type 0
IsFailed trial kept number point (OfQuery same query p) = (same ≡ kept) × (p ≡ point) × (place_at trial.ty.ops kept.numbers.items (number - 1) ≡ Query query)
IsFailed trial kept number point (Dropped fewer next) = IsShorter trial (length kept.numbers.items) fewer

-- a further condition is refuted by lines, or stops the survey; what stopped it before stays
abbrev pub longer_lists : List (List ProofLine) → Option (List ProofLine) → List (List ProofLine)
longer_lists lists None = lists
longer_lists lists (Some lines) = lists ++ lines ∷ []

abbrev pub NotesBy : Option Stop → List (List ProofLine) → Option (List ProofLine) → Option Stop → Survey → Type 0
NotesBy (Some stop) lists lines next survey = (survey.lists.items ≡ lists) × (survey.stop ≡ Some stop)
NotesBy None lists lines next survey = (survey.lists.items ≡ longer_lists lists lines) × (survey.stop ≡ next)

abbrev pub Notes : Survey → Option (List ProofLine) → Option Stop → Survey → Type 0
Notes before lines next survey = NotesBy before.stop before.lists.items lines next survey

-- how the first `n` conditions stop being refuted: they don't, or there is a first one
abbrev pub Stops : TrialForm → List Conjunct → ℕ → List (List Line) → Option Stop → Type 0
Stops trial relation n lists None = length lists ≡ n
Stops trial relation n lists (Some stop) =
    (stop.number ≡ suc (length lists)) × (stop.number ≤ n) × ((end : End) × (answer_of stop.decision ≡ stopped end) × GivesUp end × Gives trial.ty trial.design relation trial.effort stop.number (stopped end))

-- what is found of a further condition ends the survey, or goes into it
abbrev pub IsQuiet : Surveyed → (Survey → Type 0) → Type 0
IsQuiet (Fails number point) P = ⊥
IsQuiet (Quiet survey) P = P survey

abbrev pub IsFailing : Surveyed → (ℕ → Point → Type 0) → Type 0
IsFailing (Fails number point) P = P number point
IsFailing (Quiet survey) P = ⊥

abbrev pub IsNoted : Survey → ℕ → Found → Surveyed → Type 0
IsNoted survey number (Refuted lines) surveyed = IsQuiet surveyed (Notes survey (Some lines.items) None)
IsNoted survey number (FailsAtPoint point) surveyed = IsFailing surveyed (λ n p. (n ≡ number) × (p ≡ point))
IsNoted survey number (Open decision) surveyed = IsQuiet surveyed (Notes survey None (Some (record { number = number; decision = decision })))

-- what was decided of the first `n` conditions of a relation, of which none fails at a point
pub record IsSurvey (trial : TrialForm) (relation : List Conjunct) (n : ℕ) (survey : Survey) : Type 0 where
  pub no_point : (k : ℕ) → 0 < k → k ≤ n → GivesNoPoint trial.ty trial.design relation trial.effort k
  pub refuted_each : (k : ℕ) → 0 < k → k ≤ length survey.lists.items → IsRefuted trial.ty trial.design relation trial.effort k (lines_at (map lines_of survey.lists.items) k)
  pub stops : Stops trial relation n (map lines_of survey.lists.items) survey.stop

-- the condition with a number fails at a point
pub record IsFailure (trial : TrialForm) (relation : List Conjunct) (number : ℕ) (point : PointForm) : Type 0 where
  pub from_one : 0 < number
  pub among : number ≤ condition_count trial.ty relation
  pub decisive : IsDecisiveFor (condition_facts trial relation number) point

abbrev pub IsSurveyed : TrialForm → List Conjunct → Surveyed → Type 0
IsSurveyed trial relation (Fails number point) = IsFailure trial relation number (point_form point)
IsSurveyed trial relation (Quiet survey) = IsSurvey trial relation (condition_count trial.ty relation) survey

-- an answer with few drops
pub record IsAnswer (trial : TrialForm) (answer : Proving) : Type 0 where
  pub proving : IsProving trial.ty trial.design trial.candidates trial.effort answer
  pub first : IsFirst trial.ty trial.design trial.candidates trial.effort answer
  pub few : length (drops_in answer) ≤ length trial.candidates

-- what a turn gives: an answer, or fewer candidates, with what was found of conditions under them
abbrev pub IsTurn : TrialForm → ℕ → Turn → Type 0
IsTurn trial count (Ends proving) = IsAnswer trial proving
IsTurn trial count (Goes kept seen) = IsShorter trial count kept × AreSeen trial kept.relation.conjuncts seen
