-- The sorts of expressions.
use Rattle.std.specs.Prelude.{◌≡◌, ℕ, ◌⊎◌, List, Some, MatchOption, slice_get, All}
use Rattle.kat_num.specs.Values.{HasSort}
use Rattle.kat_num.specs.declared.values.Sort.{Sort}
use Rattle.kat_num.specs.declared.values.Value.{Value}
use Rattle.kat_num.specs.declared.values.Sort.TheVariants.{Bool as OfBool, Int as OfInt, Nat as OfNat, Name as OfName}
use Rattle.kat_expr.specs.declared.expressions.Slot.{Slot}
use Rattle.kat_expr.specs.declared.expressions.Slot.TheVariants.{Plain, Keyed}
use Rattle.kat_expr.specs.Slots.{argument, slot_at}
use Rattle.kat_expr.specs.Terms.{Term}
use Rattle.kat_expr.specs.Terms.Term.{constant, field, entry, parameter, negation, both, either, less, at_most, same, sum, difference, greater, lesser, choice}

-- what a state keeps of a field: a value of a sort, or such a value for each key of another sort
pub data Kept : Type 0 where
  one : Sort → Kept
  each : (key value : Sort) → Kept

-- what an expression may read: the fields of the type, and the parameters of its operation or query
pub record Scope : Type 0 where
  pub fields : List Kept
  pub params : List Sort

-- where a sort is required, that sort is accepted, and for `int` also `nat`
abbrev pub Accepts : (asked given : Sort) → Type 0
Accepts OfInt OfNat = Unit {0}
Accepts asked given = asked ≡ given

-- a field that isn't a table, of an accepted sort
abbrev pub AcceptsField : Sort → Kept → Type 0
AcceptsField asked (one given) = Accepts asked given
AcceptsField asked (each _ _) = ⊥

-- a table of exactly this key sort, with values of an accepted sort
abbrev pub AcceptsTable : Sort → Sort → Kept → Type 0
AcceptsTable asked key (one _) = ⊥
AcceptsTable asked key (each wanted given) = (wanted ≡ key) × Accepts asked given

-- numbers and names, which `max`, `min` and `if` give
abbrev pub IsChosen : Sort → Type 0
IsChosen OfBool = ⊥
IsChosen OfInt = Unit {0}
IsChosen OfNat = Unit {0}
IsChosen OfName = Unit {0}

-- the expression fits the sort: `not`, `and` and `or` take and give truth values,
-- comparisons take two numbers or two names, a sum of two `nat` is a `nat` and other sums are `int`, a
-- difference is `int`, and `max`, `min` and `if` give what both branches are
abbrev pub FitsSort : Scope → Term → Sort → Type 0
FitsSort scope (constant value) asked = HasSort asked value
FitsSort scope (field place) asked = MatchOption (slice_get scope.fields place) ⊥ (AcceptsField asked)
FitsSort scope (entry place key) asked = MatchOption (slice_get scope.params key) ⊥ (λ given. MatchOption (slice_get scope.fields place) ⊥ (AcceptsTable asked given))
FitsSort scope (parameter place) asked = MatchOption (slice_get scope.params place) ⊥ (Accepts asked)
FitsSort scope (negation a) OfBool = FitsSort scope a OfBool
FitsSort scope (both a b) OfBool = FitsSort scope a OfBool × FitsSort scope b OfBool
FitsSort scope (either a b) OfBool = FitsSort scope a OfBool × FitsSort scope b OfBool
FitsSort scope (less a b) OfBool = (FitsSort scope a OfInt × FitsSort scope b OfInt) ⊎ (FitsSort scope a OfName × FitsSort scope b OfName)
FitsSort scope (at_most a b) OfBool = (FitsSort scope a OfInt × FitsSort scope b OfInt) ⊎ (FitsSort scope a OfName × FitsSort scope b OfName)
FitsSort scope (same a b) OfBool = (FitsSort scope a OfInt × FitsSort scope b OfInt) ⊎ (FitsSort scope a OfName × FitsSort scope b OfName)
FitsSort scope (sum a b) OfInt = FitsSort scope a OfInt × FitsSort scope b OfInt
FitsSort scope (sum a b) OfNat = FitsSort scope a OfNat × FitsSort scope b OfNat
FitsSort scope (difference a b) OfInt = FitsSort scope a OfInt × FitsSort scope b OfInt
FitsSort scope (greater a b) asked = IsChosen asked × FitsSort scope a asked × FitsSort scope b asked
FitsSort scope (lesser a b) asked = IsChosen asked × FitsSort scope a asked × FitsSort scope b asked
FitsSort scope (choice c a b) asked = IsChosen asked × FitsSort scope c OfBool × FitsSort scope a asked × FitsSort scope b asked
FitsSort scope _ _ = ⊥

-- a slot keeps what it is to keep
abbrev pub FitsKept : Kept → Slot → Type 0
FitsKept (one sort) (Plain value) = HasSort sort value
FitsKept (each key sort) (Keyed start entries) = HasSort sort start × All (λ (entry : Value × Value). HasSort key entry.0 × HasSort sort entry.1) entries
FitsKept _ _ = ⊥

-- a state and arguments have what the scope says
pub record FitsScope (scope : Scope) (state : List Slot) (args : List Value) : Type 0 where
  pub fields : (place : ℕ) (kept : Kept) → slice_get scope.fields place ≡ Some kept → FitsKept kept (slot_at state place)
  pub params : (place : ℕ) (sort : Sort) → slice_get scope.params place ≡ Some sort → HasSort sort (argument args place)
