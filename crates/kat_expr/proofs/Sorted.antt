-- The value of a well-sorted expression has its sort.
use Rattle.std.proofs.Common.{◌≡◌, suc, Bool, true, false, List, [], ◌∷◌, refl, arith, ℤ, pos, Option, Some, None}
use Rattle.std.proofs.lemmas.Int.{ints}
use Rattle.std.specs.Prelude.{All, MatchOption, slice_get, ◌+ℤ◌, ◌≤ℤ◌, if◌then◌else◌}
use Rattle.kat_num.specs.Values.{HasSort}
use Rattle.kat_num.specs.declared.values.Sort.{Sort}
use Rattle.kat_num.specs.declared.values.Value.{Value}
use Rattle.kat_num.specs.declared.values.Sort.TheVariants.{Bool as OfBool, Int as OfInt, Nat as OfNat, Name as OfName}
use Rattle.kat_num.specs.declared.values.Value.TheVariants.{Bool as Truth, Num, Name}
use Rattle.kat_expr.specs.declared.expressions.Slot.{Slot}
use Rattle.kat_expr.specs.declared.expressions.Slot.TheVariants.{Plain, Keyed}
use Rattle.kat_expr.specs.Evaluation.{is_less, number_of, truth_of, value_of}
use Rattle.kat_expr.specs.Slots.{argument, is_same, read_plain, read_table, slot_at, entry_at}
use Rattle.kat_expr.specs.Sorts.{Accepts, AcceptsField, AcceptsTable, FitsKept, FitsScope, FitsSort, Kept, Scope}
use Rattle.kat_expr.specs.Sorts.Kept.{one, each}
use Rattle.kat_expr.specs.Terms.{Term}
use Rattle.kat_expr.specs.Terms.Term.{constant, field, entry, parameter, negation, both, either, less, at_most, same, sum, difference, greater, lesser, choice}

-- a value of an accepted sort has the sort that is asked
accepted : (asked given : Sort) (value : Value) → Accepts asked given → HasSort given value → HasSort asked value
accepted OfInt OfNat (Num _) _ h = tt
accepted OfInt OfNat (Truth _) _ h = h
accepted OfInt OfNat (Name _) _ h = h
accepted OfInt OfInt value _ h = h
accepted OfBool OfBool value _ h = h
accepted OfNat OfNat value _ h = h
accepted OfName OfName value _ h = h
accepted OfInt OfBool value e h = absurd (cc)
accepted OfInt OfName value e h = absurd (cc)
accepted OfBool OfInt value e h = absurd (cc)
accepted OfBool OfNat value e h = absurd (cc)
accepted OfBool OfName value e h = absurd (cc)
accepted OfNat OfInt value e h = absurd (cc)
accepted OfNat OfBool value e h = absurd (cc)
accepted OfNat OfName value e h = absurd (cc)
accepted OfName OfInt value e h = absurd (cc)
accepted OfName OfBool value e h = absurd (cc)
accepted OfName OfNat value e h = absurd (cc)

chosen : (asked : Sort) (b : Bool) (x y : Value) → HasSort asked x → HasSort asked y → HasSort asked (if b then x else y)
chosen asked true x y h k = h
chosen asked false x y h k = k

table_sort : (sort key : Sort) (at start : Value) (entries : List (Value × Value)) → HasSort sort start
    → All (λ (e : Value × Value). HasSort key e.0 × HasSort sort e.1) entries → HasSort sort (entry_at at start entries)
table_sort sort key at start [] s all = s
table_sort sort key at start (first ∷ entries) s all =
    chosen sort (is_same first.0 at) first.1 (entry_at at start entries) (all 0 first (omega arith)).1
    (table_sort sort key at start entries s (λ k d h. all (suc k) d (omega arith)))

plain_sort : (asked : Sort) (kept : Kept) (slot : Slot) → AcceptsField asked kept → FitsKept kept slot → HasSort asked (read_plain slot)
plain_sort asked (one given) (Plain value) a h = accepted asked given value a h
plain_sort asked (one given) (Keyed _ _) a h = absurd h
plain_sort asked (each _ _) slot a h = absurd a

entry_sort : (asked given : Sort) (kept : Kept) (key : Value) (slot : Slot) → AcceptsTable asked given kept → FitsKept kept slot → HasSort asked (read_table key slot)
entry_sort asked given (one _) key slot a h = absurd a
entry_sort asked given (each wanted sort) key (Plain _) a h = absurd h
entry_sort asked given (each wanted sort) key (Keyed start entries) a h =
    accepted asked sort (entry_at key start entries) a.1 (table_sort sort wanted key start entries h.0 h.1)

field_fits : (asked : Sort) (found : Option Kept) (slot : Slot) → ((kept : Kept) → found ≡ Some kept → FitsKept kept slot)
    → MatchOption found ⊥ (AcceptsField asked) → HasSort asked (read_plain slot)
field_fits asked None slot fits h = absurd h
field_fits asked (Some kept) slot fits h = plain_sort asked kept slot h (fits kept refl)

entry_fits : (asked given : Sort) (found : Option Kept) (key : Value) (slot : Slot) → ((kept : Kept) → found ≡ Some kept → FitsKept kept slot)
    → MatchOption found ⊥ (AcceptsTable asked given) → HasSort asked (read_table key slot)
entry_fits asked given None key slot fits h = absurd h
entry_fits asked given (Some kept) key slot fits h = entry_sort asked given kept key slot h (fits kept refl)

keyed_fits : (asked : Sort) (param : Option Sort) (found : Option Kept) (key : Value) (slot : Slot) → ((kept : Kept) → found ≡ Some kept → FitsKept kept slot)
    → MatchOption param ⊥ (λ given. MatchOption found ⊥ (AcceptsTable asked given)) → HasSort asked (read_table key slot)
keyed_fits asked None found key slot fits h = absurd h
keyed_fits asked (Some given) found key slot fits h = entry_fits asked given found key slot fits h

parameter_fits : (asked : Sort) (found : Option Sort) (value : Value) → ((sort : Sort) → found ≡ Some sort → HasSort sort value)
    → MatchOption found ⊥ (Accepts asked) → HasSort asked value
parameter_fits asked None value fits h = absurd h
parameter_fits asked (Some sort) value fits h = accepted asked sort value h (fits sort refl)

natural : (value : Value) → HasSort OfNat value → pos 0 ≤ℤ number_of value
natural (Num z) h = h
natural (Truth _) h = absurd h
natural (Name _) h = absurd h

natural_sum : (x y : ℤ) → pos 0 ≤ℤ x → pos 0 ≤ℤ y → pos 0 ≤ℤ (x +ℤ y)
natural_sum x y h k = omega (arith, ints)

pub value_has_sort : (scope : Scope) (state : List Slot) (args : List Value) → FitsScope scope state args → (e : Term) (asked : Sort)
    → FitsSort scope e asked → HasSort asked (value_of e state args)
value_has_sort scope state args f (constant value) asked h = h
value_has_sort scope state args f (field place) asked h = field_fits asked (slice_get scope.fields place) (slot_at state place) (f.fields place) h
value_has_sort scope state args f (entry place key) asked h =
    keyed_fits asked (slice_get scope.params key) (slice_get scope.fields place) (argument args key) (slot_at state place) (f.fields place) h
value_has_sort scope state args f (parameter place) asked h = parameter_fits asked (slice_get scope.params place) (argument args place) (f.params place) h
value_has_sort scope state args f (negation a) OfBool h = tt
value_has_sort scope state args f (both a b) OfBool h = tt
value_has_sort scope state args f (either a b) OfBool h = tt
value_has_sort scope state args f (less a b) OfBool h = tt
value_has_sort scope state args f (at_most a b) OfBool h = tt
value_has_sort scope state args f (same a b) OfBool h = tt
value_has_sort scope state args f (sum a b) OfInt h = tt
value_has_sort scope state args f (sum a b) OfNat h =
    natural_sum (number_of (value_of a state args)) (number_of (value_of b state args))
    (natural (value_of a state args) (value_has_sort scope state args f a OfNat h.0)) (natural (value_of b state args) (value_has_sort scope state args f b OfNat h.1))
value_has_sort scope state args f (difference a b) OfInt h = tt
value_has_sort scope state args f (greater a b) asked h =
    chosen asked (is_less (value_of a state args) (value_of b state args)) (value_of b state args) (value_of a state args)
    (value_has_sort scope state args f b asked h.2) (value_has_sort scope state args f a asked h.1)
value_has_sort scope state args f (lesser a b) asked h =
    chosen asked (is_less (value_of b state args) (value_of a state args)) (value_of b state args) (value_of a state args)
    (value_has_sort scope state args f b asked h.2) (value_has_sort scope state args f a asked h.1)
value_has_sort scope state args f (choice c a b) asked h =
    chosen asked (truth_of (value_of c state args)) (value_of a state args) (value_of b state args)
    (value_has_sort scope state args f a asked h.2) (value_has_sort scope state args f b asked h.3)
value_has_sort scope state args f (negation _) _ h = absurd h
value_has_sort scope state args f (both _ _) _ h = absurd h
value_has_sort scope state args f (either _ _) _ h = absurd h
value_has_sort scope state args f (less _ _) _ h = absurd h
value_has_sort scope state args f (at_most _ _) _ h = absurd h
value_has_sort scope state args f (same _ _) _ h = absurd h
value_has_sort scope state args f (sum _ _) _ h = absurd h
value_has_sort scope state args f (difference _ _) _ h = absurd h
