-- What a relation says of a situation.
use Rattle.std.specs.Prelude.{◌≡◌, ℕ, pos, int_le, Bool, true, false, not, ◌||◌, List, [], ◌∷◌, length, map, take, drop, Option, None, Some, if◌then◌else◌}
use Rattle.std.specs.List.{All}
use Rattle.std.specs.Ordering.{is_lt}
use Rattle.kat_num.specs.Values.{HasSort}
use Rattle.kat_num.specs.declared.values.Sort.{Sort}
use Rattle.kat_num.specs.declared.values.Value.{Value}
use Rattle.kat_num.specs.declared.values.Value.TheVariants as value
use Rattle.kat_expr.specs.Evaluation.{number_of, truth_of}
use Rattle.kat_expr.specs.Slots.{absent, argument, slot_at}
use Rattle.kat_type.specs.Ranks.{rank_cmp}
use Rattle.kat_type.specs.Types.{TypeForm}
use Rattle.kat_seq.specs.States.{answer_of}
use Rattle.kat_design.specs.Designs.{DesignForm}
use Rattle.kat_type.specs.Unions.{is_same_value}
use Rattle.kat_relation.specs.declared.relations.Conjunct.{Conjunct}
use Rattle.kat_relation.specs.declared.relations.Conjunct.TheVariants.{Query, Equal, Bounded, AtLeast, Matched, Total}
use Rattle.kat_relation.specs.declared.relations.LeafRef.{LeafRef}
use Rattle.kat_relation.specs.Keys.{conjunct_key}
use Rattle.kat_invariant.specs.Asked.{asked}
use Rattle.kat_invariant.specs.Situations.{Last, Situation, leaf_in, slot_value}

-- a truth value in a rank's place is 0 or 1
abbrev pub as_element : Value → Value
as_element (value.Bool b) = value.Num (if b then pos 1 else pos 0)
as_element (value.Num z) = value.Num z
as_element (value.Name n) = value.Name n

abbrev pub leaf_at : Situation → Value → LeafRef → Value
leaf_at s key ref = leaf_in (s.held ref.component key) ref.leaf

-- the leaves are lexicographically at most the last rank's elements from the position on, as many as there are leaves:
-- these don't come before them
abbrev pub are_bounded : Option Last → ℕ → List Value → Bool
are_bounded None position leaves = true
are_bounded (Some last) position leaves = not (is_lt (rank_cmp (take (length leaves) (drop position last.rank)) (map as_element leaves)))

-- there is a last operation, and the element of its rank is at least the digit
abbrev pub is_at_least : Option Last → ℕ → ℕ → Bool
is_at_least None position digit = false
is_at_least (Some last) position digit = int_le (pos digit) (number_of (argument last.rank position))

-- if there is a last operation and the leaf is the element of its rank, and the other leaf is true, the later element
-- is at least the digit
abbrev pub is_matched : Option Last → Value → ℕ → Value → ℕ → ℕ → Bool
is_matched None first position second later digit = true
is_matched (Some last) first position second later digit =
    not (is_same_value first (argument last.rank position)) || not (truth_of second) || int_le (pos digit) (number_of (argument last.rank later))

-- Whether a conjunct holds at a key; one without keys is taken at `absent`, which no query and no part reads.
abbrev pub holds_at : TypeForm → DesignForm → Situation → Value → Conjunct → Bool
holds_at ty d s key (Query i) = is_same_value (answer_of ty s.state i (key ∷ [])) (asked d s.held i (key ∷ []))
holds_at ty d s key (Equal field ref) = is_same_value (slot_value key (slot_at s.state field)) (leaf_at s key ref)
holds_at ty d s key (Bounded refs position) = are_bounded s.last position (map (leaf_at s key) refs)
holds_at ty d s key (AtLeast ref position digit) = not (truth_of (leaf_at s key ref)) || is_at_least s.last position digit
holds_at ty d s key (Matched first position second later digit) = is_matched s.last (leaf_at s key first) position (leaf_at s key second) later digit
holds_at ty d s key (Total component) = int_le (pos 0) (number_of (leaf_in (s.held component key) 0))

-- one with keys holds if it does at every key of its sort
abbrev pub HoldsEverywhere : Option Sort → (Value → Bool) → Type 0
HoldsEverywhere None at = at absent ≡ true
HoldsEverywhere (Some sort) at = (key : Value) → HasSort sort key → at key ≡ true

-- a relation holds if all of its conjuncts do
abbrev pub Holds : TypeForm → DesignForm → List Conjunct → Situation → Type 0
Holds ty d relation s = All (λ c. HoldsEverywhere (conjunct_key ty d.components c) (λ key. holds_at ty d s key c)) relation
