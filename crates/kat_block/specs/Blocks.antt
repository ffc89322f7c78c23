-- What a line in the block of an undecided design may say.
use Rattle.std.specs.Prelude.{◌≡◌, ℕ, ◌<◌, false, List, [], ◌∷◌, ◌++◌, Option, Some, option_map, option_and_then, slice_get}
use Rattle.kat_candidate.specs.Places.{has_number, left_behind}
use Rattle.kat_design.specs.Designs.{DesignForm}
use Rattle.kat_form.specs.Facts.{Fact}
use Rattle.kat_form.specs.Readings.{encoding_of, numbers_of_facts}
use Rattle.kat_points.specs.Points.{IsDecisiveFor, IsTooWide, PointForm}
use Rattle.kat_relation.specs.declared.relations.Conjunct.{Conjunct}
use Rattle.kat_said.specs.Sayings.{SaidForm}
use Rattle.kat_said.specs.Sayings.SaidForm.{drops, fails, spends, crowds, widens, is_long}
use Rattle.kat_said.specs.declared.said.Place.{Place}
use Rattle.kat_said.specs.declared.said.Place.TheVariants.{Start, Step, Query}
use Rattle.kat_type.specs.Lists.{Has}
use Rattle.kat_type.specs.Types.{TypeForm}
use Rattle.kat_vc.specs.Conditions.{Condition, start, step, answers, facts_by, starts, steps_of_each}
use Rattle.kat_walks.specs.Walks.{End, EndsIn}
use Rattle.kat_walks.specs.Walks.End.{used_up, met_point, too_many, too_wide}

-- the numbers of the candidate of a place: none for a query's
abbrev pub conjunct_in : Place → List ℕ
conjunct_in (Start j) = j ∷ []
conjunct_in (Step o j) = j ∷ []
conjunct_in (Query q) = []

abbrev pub IsOfConjunct : Place → Type 0
IsOfConjunct (Start j) = Unit {0}
IsOfConjunct (Step o j) = Unit {0}
IsOfConjunct (Query q) = ⊥

-- the condition at a place, if there is one: a candidate holds at the start, an operation keeps it, or a query has the same
-- answers on both sides
abbrev pub condition_in : TypeForm → List Conjunct → Place → Option Condition
condition_in ty candidates (Start j) = option_map start (slice_get candidates j)
condition_in ty candidates (Step o j) = option_and_then (λ op. option_map (step o op) (slice_get candidates j)) (slice_get ty.ops o)
condition_in ty candidates (Query q) = option_map (answers q) (slice_get ty.queries q)

-- the candidate of the place isn't dropped
abbrev pub IsLeftAt : List ℕ → Place → Type 0
IsLeftAt dropped (Start j) = has_number j dropped ≡ false
IsLeftAt dropped (Step o j) = has_number j dropped ≡ false
IsLeftAt dropped (Query q) = Unit {0}

-- the place has this condition under the candidates that aren't dropped
pub record HasCondition (ty : TypeForm) (candidates : List Conjunct) (dropped : List ℕ) (at : Place) (condition : Condition) : Type 0 where
  pub there : condition_in ty candidates at ≡ Some condition
  pub left : IsLeftAt dropped at

-- the facts of a condition under the candidates that aren't dropped
abbrev pub facts_under : TypeForm → DesignForm → List Conjunct → List ℕ → Condition → List Fact
facts_under ty d candidates dropped condition = facts_by ty d (left_behind candidates dropped) (Some condition)

-- what a point and a walk are to facts
abbrev pub Fails : List Fact → PointForm → Type 0
Fails facts point = IsDecisiveFor facts (encoding_of facts).senses (numbers_of_facts facts) point

abbrev pub Passes : List Fact → PointForm → Type 0
Passes facts point = IsTooWide (encoding_of facts).senses (numbers_of_facts facts) point

abbrev pub WalkEnds : List Fact → ℕ → End → Type 0
WalkEnds facts effort end = EndsIn (encoding_of facts) (numbers_of_facts facts) effort end

-- the condition at the place fails at the point
pub record FailsAt (ty : TypeForm) (d : DesignForm) (candidates : List Conjunct) (dropped : List ℕ) (at : Place) (point : PointForm) : Type 0 where
  pub condition : Condition
  pub has : HasCondition ty candidates dropped at condition
  pub decisive : Fails (facts_under ty d candidates dropped condition) point

-- a number that is computed for an atom of the condition at the place passes 2^126 at the point
pub record PassesAt (ty : TypeForm) (d : DesignForm) (candidates : List Conjunct) (dropped : List ℕ) (at : Place) (point : PointForm) : Type 0 where
  pub condition : Condition
  pub has : HasCondition ty candidates dropped at condition
  pub wide : Passes (facts_under ty d candidates dropped condition) point

-- the conditions of the candidates that aren't dropped: at the start, and for each operation
abbrev pub conjunct_conditions : TypeForm → List Conjunct → List Condition
conjunct_conditions ty relation = starts relation ++ steps_of_each 0 ty.ops relation

-- the walk of the condition at the place ends so, and none of a candidate's condition ends at a point
pub record EndsAt (ty : TypeForm) (d : DesignForm) (candidates : List Conjunct) (effort : ℕ) (dropped : List ℕ) (at : Place) (end : End) : Type 0 where
  pub condition : Condition
  pub has : HasCondition ty candidates dropped at condition
  pub ends : WalkEnds (facts_under ty d candidates dropped condition) effort end
  pub no_point : (other : Condition) → Has (conjunct_conditions ty (left_behind candidates dropped)) other → WalkEnds (facts_under ty d candidates dropped other) effort met_point → ⊥

-- a file is too long with more bytes than this
abbrev pub text_limit : ℕ
text_limit = 16_777_216

-- What a line may say, after candidates that were dropped: a candidate is dropped, at a point at which a condition of
-- it fails under those that aren't dropped, itself among them; or the block ends, in one of five ways.
abbrev pub IsDueIn : TypeForm → DesignForm → List Conjunct → ℕ → List ℕ → SaidForm → Type 0
IsDueIn ty d candidates effort dropped (drops at point) = IsOfConjunct at × FailsAt ty d candidates dropped at point
IsDueIn ty d candidates effort dropped (fails query point) = FailsAt ty d candidates dropped (Query query) point
IsDueIn ty d candidates effort dropped (spends at) = EndsAt ty d candidates effort dropped at used_up
IsDueIn ty d candidates effort dropped (crowds at plus minus rest lits) = EndsAt ty d candidates effort dropped at (too_many lits plus minus rest)
IsDueIn ty d candidates effort dropped (widens at left right lits) = EndsAt ty d candidates effort dropped at (too_wide lits left right)
IsDueIn ty d candidates effort dropped (is_long bytes) = text_limit < bytes

-- it has a point that is too wide
abbrev pub IsWideIn : TypeForm → DesignForm → List Conjunct → List ℕ → SaidForm → Type 0
IsWideIn ty d candidates dropped (drops at point) = IsOfConjunct at × PassesAt ty d candidates dropped at point
IsWideIn ty d candidates dropped (fails query point) = PassesAt ty d candidates dropped (Query query) point
IsWideIn ty d candidates dropped (spends at) = ⊥
IsWideIn ty d candidates dropped (crowds at plus minus rest lits) = ⊥
IsWideIn ty d candidates dropped (widens at left right lits) = ⊥
IsWideIn ty d candidates dropped (is_long bytes) = ⊥
