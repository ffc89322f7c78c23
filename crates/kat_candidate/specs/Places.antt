-- The places of conditions, and candidates that are left while others are dropped.
use Rattle.std.specs.Prelude.{ℕ, suc, nat_eq, Bool, if◌then◌else◌, List, [], ◌∷◌, Option, option_map, option_and_then, slice_get}
use Rattle.std.specs.List.{list_any}
use Rattle.kat_relation.specs.declared.relations.Conjunct.{Conjunct}
use Rattle.kat_type.specs.Types.{TypeForm}
use Rattle.kat_vc.specs.Conditions.{Condition, start, step, answers}
use Rattle.kat_candidate.specs.declared.places.Place1.{Place1}
use Rattle.kat_candidate.specs.declared.places.Place1.TheVariants.{Start, Step, Query}

-- the number of the candidate whose condition is at a place, if it is one of a candidate
abbrev pub conjunct_at : Place1 → List ℕ
conjunct_at (Start conjunct) = conjunct ∷ []
conjunct_at (Step op conjunct) = conjunct ∷ []
conjunct_at (Query query) = []

abbrev pub has_number : ℕ → List ℕ → Bool
has_number n numbers = list_any (λ m. nat_eq m n) numbers

-- the candidates, numbered from `n` on, whose numbers aren't dropped, in their order
abbrev pub left_from : ℕ → List ℕ → List Conjunct → List Conjunct
left_from n dropped [] = []
left_from n dropped (c ∷ cs) = if has_number n dropped then left_from (suc n) dropped cs else c ∷ left_from (suc n) dropped cs

abbrev pub left_behind : List Conjunct → List ℕ → List Conjunct
left_behind candidates dropped = left_from 0 dropped candidates

-- the condition at a place, if there is one: a candidate holds at the start, an operation keeps it, or a query has the same
-- answers on both sides
abbrev pub condition_at : TypeForm → List Conjunct → Place1 → Option Condition
condition_at ty candidates (Start conjunct) = option_map start (slice_get candidates conjunct)
condition_at ty candidates (Step op conjunct) = option_and_then (λ o. option_map (step op o) (slice_get candidates conjunct)) (slice_get ty.ops op)
condition_at ty candidates (Query query) = option_map (answers query) (slice_get ty.queries query)
