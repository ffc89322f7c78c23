-- Used inside only.
-- Used by kat_audit, kat_due and inside only: the candidates that are left, and what is reported of a line.
use Rattle.std.specs.Prelude.{◌≡◌, ℕ, zero, suc, ◌-◌, ◌≤◌, ◌^◌, nat_eq, if◌then◌else◌, List, [], ◌∷◌, ◌++◌, length, Option, Some, None, slice_get}
use Rattle.std.specs.List.{cons_option}
use Rattle.kat_candidate.specs.Places.{has_number, left_behind}
use Rattle.kat_design.specs.Designs.{DesignForm}
use Rattle.kat_form.specs.Facts.{Fact}
use Rattle.kat_form.specs.Readings.{encoding_of, numbers_of_facts}
use Rattle.kat_points.specs.Answers.{IsFound}
use Rattle.kat_points.specs.Points.{PointForm}
use Rattle.kat_points.specs.declared.points.Found.{Found}
use Rattle.kat_points.specs.declared.points.Found.TheVariants as found
use Rattle.kat_relation.specs.declared.relations.Conjunct.{Conjunct}
use Rattle.kat_said.specs.Sayings.{SaidForm}
use Rattle.kat_said.specs.Sayings.SaidForm.{drops, fails, spends, crowds, widens, is_long}
use Rattle.kat_said.specs.declared.said.Place.{Place}
use Rattle.kat_said.specs.declared.judging.Step.{Step}
use Rattle.kat_said.specs.declared.judging.Step.TheVariants.{Due, Fault, Wide}
use Rattle.kat_type.specs.Lists.{Has}
use Rattle.kat_type.specs.Types.{TypeForm}
use Rattle.kat_vc.specs.Conditions.{Condition, conditions}
use Rattle.kat_walks.specs.Stands.{end_of}
use Rattle.kat_walks.specs.Walks.{End}
use Rattle.kat_walks.specs.Walks.End.{used_up, met_point, too_many, too_wide}
use Rattle.kat_walks.specs.declared.walking.WalkEnd.{WalkEnd}
use Rattle.kat_block.specs.Blocks.{EndsAt, FailsAt, HasCondition, IsDueIn, IsWideIn, PassesAt, WalkEnds, conjunct_conditions, facts_under}
use Rattle.kat_block.specs.declared.left.Block.{Block}

-- this many numbers, from one on
abbrev pub numbers_from : ℕ → ℕ → List ℕ
numbers_from n zero = []
numbers_from n (suc left) = n ∷ numbers_from (suc n) left

-- the numbers, from `n` on, of the candidates that aren't dropped
abbrev pub numbers_left : ℕ → List ℕ → List Conjunct → List ℕ
numbers_left n dropped [] = []
numbers_left n dropped (c ∷ cs) = if has_number n dropped then numbers_left (suc n) dropped cs else n ∷ numbers_left (suc n) dropped cs

-- the numbers except for one, and the conjuncts with numbers
abbrev pub without : ℕ → List ℕ → List ℕ
without number [] = []
without number (n ∷ ns) = if nat_eq number n then without number ns else n ∷ without number ns

abbrev pub conjuncts_of : List Conjunct → List ℕ → List Conjunct
conjuncts_of candidates [] = []
conjuncts_of candidates (n ∷ ns) = cons_option (slice_get candidates n) [] ++ conjuncts_of candidates ns

-- what is kept of a block are the candidates, and those that aren't dropped
pub record IsBlock (block : Block) : Type 0 where
  pub few : length block.candidates.conjuncts ≤ 2 ^ 28
  pub numbers : block.numbers.items ≡ numbers_left 0 block.dropped.items block.candidates.conjuncts
  pub left : block.left.conjuncts ≡ left_behind block.candidates.conjuncts block.dropped.items

-- the number, from 1, of the condition at a place among those of the relation that is left
pub record IsNumberAt (ty : TypeForm) (candidates : List Conjunct) (dropped : List ℕ) (at : Place) (number : ℕ) : Type 0 where
  pub condition : Condition
  pub has : HasCondition ty candidates dropped at condition
  pub numbered : slice_get (conditions ty (left_behind candidates dropped)) (number - 1) ≡ Some condition

abbrev pub HasNone : TypeForm → List Conjunct → List ℕ → Place → Type 0
HasNone ty candidates dropped at = (condition : Condition) → HasCondition ty candidates dropped at condition → ⊥

-- what is found of a point of facts
abbrev pub IsFoundIn : List Fact → PointForm → Found → Type 0
IsFoundIn facts point f = IsFound facts (encoding_of facts).senses (numbers_of_facts facts) point f

-- what is reported of a line with a point at a place
abbrev pub IsPointStep : TypeForm → DesignForm → List Conjunct → List ℕ → Place → PointForm → Step → Type 0
IsPointStep ty d candidates dropped at point Due = (PassesAt ty d candidates dropped at point → ⊥) × FailsAt ty d candidates dropped at point
IsPointStep ty d candidates dropped at point Fault = (PassesAt ty d candidates dropped at point → ⊥) × (FailsAt ty d candidates dropped at point → ⊥)
IsPointStep ty d candidates dropped at point Wide = PassesAt ty d candidates dropped at point

-- what is reported of a line
abbrev pub IsStepOf : TypeForm → DesignForm → List Conjunct → ℕ → List ℕ → SaidForm → Step → Type 0
IsStepOf ty d candidates effort dropped said Due = (IsWideIn ty d candidates dropped said → ⊥) × IsDueIn ty d candidates effort dropped said
IsStepOf ty d candidates effort dropped said Fault = (IsWideIn ty d candidates dropped said → ⊥) × (IsDueIn ty d candidates effort dropped said → ⊥)
IsStepOf ty d candidates effort dropped said Wide = IsWideIn ty d candidates dropped said

-- how the walk of facts ends, if it does
abbrev pub IsWalkOf : List Fact → ℕ → Option WalkEnd → Type 0
IsWalkOf facts effort (Some end) = WalkEnds facts effort (end_of end)
IsWalkOf facts effort None = (end : End) → WalkEnds facts effort end → ⊥

-- the end of a walk that a line tells
abbrev pub end_said : SaidForm → Option End
end_said (drops at point) = None
end_said (fails query point) = None
end_said (spends at) = Some used_up
end_said (crowds at plus minus rest lits) = Some (too_many lits plus minus rest)
end_said (widens at left right lits) = Some (too_wide lits left right)
end_said (is_long bytes) = None

-- the walk ended as the line says
abbrev pub IsSaid : Option WalkEnd → SaidForm → Type 0
IsSaid None said = ⊥
IsSaid (Some end) said = end_said said ≡ Some (end_of end)

-- the walk of some condition of a candidate ends at a point
pub record MeetsPoint (ty : TypeForm) (d : DesignForm) (candidates : List Conjunct) (effort : ℕ) (dropped : List ℕ) : Type 0 where
  pub other : Condition
  pub among : Has (conjunct_conditions ty (left_behind candidates dropped)) other
  pub ends : WalkEnds (facts_under ty d candidates dropped other) effort met_point

-- what is reported of a line that tells an end
abbrev pub IsEndStep : TypeForm → DesignForm → List Conjunct → ℕ → List ℕ → Place → End → Step → Type 0
IsEndStep ty d candidates effort dropped at end Due = EndsAt ty d candidates effort dropped at end
IsEndStep ty d candidates effort dropped at end Fault = EndsAt ty d candidates effort dropped at end → ⊥
IsEndStep ty d candidates effort dropped at end Wide = ⊥

abbrev pub step_of : Found → Step
step_of found.Decisive = Due
step_of found.TooWide = Wide
step_of found.Neither = Fault
