-- What is proved of a design, or shown against it.
use Rattle.std.specs.Prelude.{◌≡◌, ℕ, ◌-◌, ◌<◌, ◌≤◌, ℤ, Bool, List, [], length, map, Option, Some, None, slice_get, slice_index_or}
use Rattle.kat_design.specs.Designs.{DesignForm}
use Rattle.kat_fm.specs.Eliminations.{elim_of}
use Rattle.kat_form.specs.Facts.{Fact}
use Rattle.kat_form.specs.Readings.{encoding_of, numbers_of_facts}
use Rattle.kat_linear.specs.Sums.{IsNarrow}
use Rattle.kat_linear.specs.Widths.{widths}
use Rattle.kat_refute.specs.Lines.{AreARefutation, Line, lines_of}
use Rattle.kat_relation.specs.declared.relations.Conjunct.{Conjunct}
use Rattle.kat_cases.specs.Answers.{answer_of}
use Rattle.kat_cases.specs.Decisions.{AreLinesFor}
use Rattle.kat_cases.specs.Nodes.{End, Setting}
use Rattle.kat_cases.specs.Nodes.End.{spent, at_point, at_rows, at_wide}
use Rattle.kat_cases.specs.Walks.{Answer, WalkGives}
use Rattle.kat_cases.specs.Walks.Answer.{stopped}
use Rattle.kat_type.specs.Types.{TypeForm}
use Rattle.kat_vc.specs.Conditions.{Condition, start, step, answers, condition_count, conditions, facts_of_condition}
use Rattle.kat_candidate.specs.Places.{condition_at, left_behind}
use Rattle.kat_drop.specs.Certificates.{AreDrops, DropForm, IsOpenCertificate, dropped_by, drops_of, point_form}
use Rattle.kat_candidate.specs.declared.places.Place1.{Place1}
use Rattle.kat_prove.specs.declared.provings.Proving.{Proving}
use Rattle.kat_prove.specs.declared.provings.Proving.TheVariants.{Proved, OpenCert, Stuck}

-- the walk over the encoding of facts
abbrev pub setting_over : List Fact → Setting
setting_over facts = record {
  encoding = encoding_of facts;
  solve = λ forms. elim_of forms (numbers_of_facts facts);
  wide = λ forms ms. widths forms ms;
}

-- what the walk gives for the condition of a relation with a number, from 1
abbrev pub Gives : TypeForm → DesignForm → List Conjunct → ℕ → ℕ → Answer → Type 0
Gives ty design relation effort k answer = WalkGives (setting_over (facts_of_condition ty design relation k)) effort answer

-- the walk gives no point for it
abbrev pub GivesNoPoint : TypeForm → DesignForm → List Conjunct → ℕ → ℕ → Type 0
GivesNoPoint ty design relation effort k = (den : ℤ) (nums : List ℤ) (truths : List Bool) → Gives ty design relation effort k (stopped (at_point den nums truths)) → ⊥

-- the lines for a condition, by its number from 1
abbrev pub lines_at : List (List Line) → ℕ → List Line
lines_at proof k = slice_index_or proof (k - 1) []

-- the lines are those of the walk, or, if it gives up, of a further search, and they refute the condition with this number
pub record IsRefuted (ty : TypeForm) (design : DesignForm) (relation : List Conjunct) (effort k : ℕ) (lines : List Line) : Type 0 where
  pub lines_for : AreLinesFor (setting_over (facts_of_condition ty design relation k)) effort lines
  pub refutes : AreARefutation (encoding_of (facts_of_condition ty design relation k)) lines

-- A design is proved: candidates may be dropped in this order, the relation consists of those that are left, and there is a
-- list of lines for each of its conditions, which refute it.
pub record IsProved (ty : TypeForm) (design : DesignForm) (candidates : List Conjunct) (effort : ℕ) (drops : List DropForm) (relation : List Conjunct) (proof : List (List Line)) : Type 0 where
  pub dropped : AreDrops ty design candidates drops
  pub left : relation ≡ left_behind candidates (dropped_by drops)
  pub as_many : length proof ≡ condition_count ty relation
  pub refuted_each : (k : ℕ) → 0 < k → k ≤ condition_count ty relation → IsRefuted ty design relation effort k (lines_at proof k)

-- the walk gives up: its leaves are used up, or elimination has too many rows or too great numbers, of which the two that it tells
-- are at most 2^126 themselves
abbrev pub GivesUp : End → Type 0
GivesUp spent = Unit {0}
GivesUp (at_point den nums truths) = ⊥
GivesUp (at_rows lits plus minus rest) = Unit {0}
GivesUp (at_wide lits left right) = IsNarrow left × IsNarrow right

-- the condition is one of a conjunct: it holds at the start, or an operation keeps it
abbrev pub IsOfConjunct : Option Condition → Type 0
IsOfConjunct None = ⊥
IsOfConjunct (Some (start c)) = Unit {0}
IsOfConjunct (Some (step o op c)) = Unit {0}
IsOfConjunct (Some (answers q query)) = ⊥

-- A design is undecided: candidates may be dropped in this order, and under those that are left the walk gives up in this way at
-- the condition of the place, and gives a point for no condition of a conjunct.
pub record IsStuck (ty : TypeForm) (design : DesignForm) (candidates : List Conjunct) (effort : ℕ) (drops : List DropForm) (at : Place1) (end : End) : Type 0 where
  pub dropped : AreDrops ty design candidates drops
  pub number : ℕ
  pub from_one : 0 < number
  pub among : number ≤ condition_count ty (left_behind candidates (dropped_by drops))
  pub placed : condition_at ty candidates at ≡ slice_get (conditions ty (left_behind candidates (dropped_by drops))) (number - 1)
  pub gives : Gives ty design (left_behind candidates (dropped_by drops)) effort number (stopped end)
  pub gives_up : GivesUp end
  pub no_point : (k : ℕ) → 0 < k → k ≤ condition_count ty (left_behind candidates (dropped_by drops))
      → IsOfConjunct (slice_get (conditions ty (left_behind candidates (dropped_by drops))) (k - 1)) → GivesNoPoint ty design (left_behind candidates (dropped_by drops)) effort k

-- The place is that of the first condition that isn't refuted: each before it is. The walk gives no point for any, also for
-- none of a query.
pub record IsFirstOpen (ty : TypeForm) (design : DesignForm) (relation candidates : List Conjunct) (effort : ℕ) (at : Place1) : Type 0 where
  pub number : ℕ
  pub from_one : 0 < number
  pub among : number ≤ condition_count ty relation
  pub placed : condition_at ty candidates at ≡ slice_get (conditions ty relation) (number - 1)
  pub before : (k : ℕ) → 0 < k → k < number → (lines : List Line) × IsRefuted ty design relation effort k lines
  pub no_point : (k : ℕ) → 0 < k → k ≤ condition_count ty relation → GivesNoPoint ty design relation effort k

-- what is answered of a design, with these candidates
abbrev pub IsProving : TypeForm → DesignForm → List Conjunct → ℕ → Proving → Type 0
IsProving ty design candidates effort (Proved drops relation proof) = IsProved ty design candidates effort (drops_of drops.items) relation.conjuncts (map lines_of proof)
IsProving ty design candidates effort (OpenCert drops query point) = IsOpenCertificate ty design candidates (drops_of drops.items) query (point_form point)
IsProving ty design candidates effort (Stuck drops at decision) = (end : End) × (answer_of decision ≡ stopped end) × IsStuck ty design candidates effort (drops_of drops.items) at end

-- when a design is undecided, the place is the first
abbrev pub IsFirst : TypeForm → DesignForm → List Conjunct → ℕ → Proving → Type 0
IsFirst ty design candidates effort (Proved drops relation proof) = Unit {0}
IsFirst ty design candidates effort (OpenCert drops query point) = Unit {0}
IsFirst ty design candidates effort (Stuck drops at decision) = IsFirstOpen ty design (left_behind candidates (dropped_by (drops_of drops.items))) candidates effort at

-- the drops of an answer
abbrev pub drops_in : Proving → List DropForm
drops_in (Proved drops relation proof) = drops_of drops.items
drops_in (OpenCert drops query point) = drops_of drops.items
drops_in (Stuck drops at decision) = drops_of drops.items
