-- Well-sorted designs, by the form of a design: what each rule asks for, and not how a fault of it is found.
use Rattle.std.specs.Prelude.{◌≡◌, ◌≢◌, ℕ, ◌^◌, ◌-◌, ◌≤◌, List, [], ◌∷◌, length, Option, None, Some, slice_get, pos, neg_ℤ, ◌≤ℤ◌}
use Rattle.kat_num.specs.Names.{IsNameCode}
use Rattle.kat_num.specs.declared.values.Sort.{Sort}
use Rattle.kat_num.specs.declared.values.Sort.TheVariants as sort
use Rattle.kat_num.specs.declared.values.Value.{Value}
use Rattle.kat_num.specs.declared.values.Value.TheVariants as value
use Rattle.kat_shape.specs.Forms.{IsGoodForm}
use Rattle.kat_type.specs.declared.signatures.OpSig.{OpSig}
use Rattle.kat_type.specs.declared.signatures.QuerySig.{QuerySig}
use Rattle.kat_design.specs.Designs.{ComponentForm, AskForm, DesignForm}
use Rattle.kat_design.specs.Designs.ComponentForm.{a_cell, a_table, a_set, a_tally, tallies}
use Rattle.kat_design.specs.Designs.AskForm.{leaf as a_leaf, parameter, constant, negation, both, either, less, sum, difference}
use Rattle.kat_design.specs.Kinds.{component_kinds, key_sort, kinds_of, sort_kind, value_kind}
use Rattle.kat_design.specs.Sizes.{size_of}
use Rattle.kat_design.specs.declared.sizes.TheConstants.{COMPONENT_LIMIT, SIZE_LIMIT}
use Rattle.kat_design.specs.declared.designs.Leaf.{Leaf}
use Rattle.kat_design.specs.declared.designs.Leaf.TheVariants as leaf
use Rattle.kat_design.specs.declared.kinds.Kind.{Kind}
use Rattle.kat_design.specs.declared.kinds.Kind.TheVariants as kind

-- two lists have one length, and each element matches the one of the other list
abbrev pub AreMatched : {A B : Type 0} → (A → B → Type 0) → List A → List B → Type 0
AreMatched Match [] [] = Unit {0}
AreMatched Match (x ∷ xs) (y ∷ ys) = Match x y × AreMatched Match xs ys
AreMatched Match _ _ = ⊥

-- each element has it
abbrev pub EachHas : {A : Type 0} → (A → Type 0) → List A → Type 0
EachHas Has [] = Unit {0}
EachHas Has (x ∷ xs) = Has x × EachHas Has xs

-- a value that a file can have: a number of 64 bits with or without a sign, a name, or a truth value
abbrev pub IsWritten : Value → Type 0
IsWritten (value.Bool b) = Unit {0}
IsWritten (value.Num z) = (neg_ℤ (pos (2 ^ 63)) ≤ℤ z) × (z ≤ℤ pos (2 ^ 64 - 1))
IsWritten (value.Name code) = IsNameCode code

-- a start has the kind of its leaf
pub record IsStart (v : Value) (k : Kind) : Type 0 where
  pub kind_is : value_kind v ≡ k
  pub written : IsWritten v

-- the parameter with this number has exactly this sort
abbrev pub IsParameter : List Sort → ℕ → Sort → Type 0
IsParameter sorts place s = slice_get sorts place ≡ Some s

-- what an operation may give to a leaf of a kind
pub data GivesKind (sorts : List Sort) : Leaf → Kind → Type 0 where
  argument : (place : ℕ) (s : Sort) → IsParameter sorts place s → GivesKind sorts (leaf.Arg place) (sort_kind s)
  time : GivesKind sorts leaf.Time kind.Number
  replica : GivesKind sorts leaf.Replica kind.Number
  zero_leaf : GivesKind sorts leaf.Zero kind.Number
  one : GivesKind sorts leaf.One kind.Number
  above : (place : ℕ) → IsParameter sorts place sort.Int → GivesKind sorts (leaf.Pos place) kind.Number
  below : (place : ℕ) → IsParameter sorts place sort.Int → GivesKind sorts (leaf.Neg place) kind.Number
  false_leaf : GivesKind sorts leaf.False kind.Truth
  true_leaf : GivesKind sorts leaf.True kind.Truth

-- what an operation may add to a sum: natural numbers alone
pub data IsWeight (sorts : List Sort) : Leaf → Type 0 where
  natural : (place : ℕ) → IsParameter sorts place sort.Nat → IsWeight sorts (leaf.Arg place)
  time : IsWeight sorts leaf.Time
  replica : IsWeight sorts leaf.Replica
  zero_leaf : IsWeight sorts leaf.Zero
  one : IsWeight sorts leaf.One
  above : (place : ℕ) → IsParameter sorts place sort.Int → IsWeight sorts (leaf.Pos place)
  below : (place : ℕ) → IsParameter sorts place sort.Int → IsWeight sorts (leaf.Neg place)

-- the effect of an operation on each kind of component
abbrev pub FitsCell : List Kind → Option (List Leaf) → OpSig → Type 0
FitsCell kinds None op = Unit {0}
FitsCell kinds (Some leaves) op = AreMatched (GivesKind op.sorts) leaves kinds

abbrev pub FitsTable : Sort → List Kind → Option (ℕ × List Leaf) → OpSig → Type 0
FitsTable key kinds None op = Unit {0}
FitsTable key kinds (Some effect) op = IsParameter op.sorts effect.0 key × AreMatched (GivesKind op.sorts) effect.1 kinds

abbrev pub FitsSet : Sort → Option ℕ → OpSig → Type 0
FitsSet key None op = Unit {0}
FitsSet key (Some place) op = IsParameter op.sorts place key

abbrev pub FitsTally : Option Leaf → OpSig → Type 0
FitsTally None op = Unit {0}
FitsTally (Some given) op = IsWeight op.sorts given

abbrev pub FitsTallies : Sort → Option (ℕ × Leaf) → OpSig → Type 0
FitsTallies key None op = Unit {0}
FitsTallies key (Some effect) op = IsParameter op.sorts effect.0 key × IsWeight op.sorts effect.1

-- a component: the first part of each `lex` is a chain, there is a start for each leaf, keys are numbers or names, and
-- there is an effect or none for each operation
abbrev pub IsComponent : List OpSig → ComponentForm → Type 0
IsComponent ops (a_cell shape starts effects) = IsGoodForm shape × AreMatched IsStart starts (kinds_of shape) × AreMatched (FitsCell (kinds_of shape)) effects ops
IsComponent ops (a_table key shape starts effects) =
    (key ≢ sort.Bool) × IsGoodForm shape × AreMatched IsStart starts (kinds_of shape) × AreMatched (FitsTable key (kinds_of shape)) effects ops
IsComponent ops (a_set key effects) = (key ≢ sort.Bool) × AreMatched (FitsSet key) effects ops
IsComponent ops (a_tally effects) = AreMatched FitsTally effects ops
IsComponent ops (tallies key effects) = (key ≢ sort.Bool) × AreMatched (FitsTallies key) effects ops

-- a key is a parameter of exactly the key sort, and is given only if there are keys
abbrev pub FitsKey : List Sort → Option Sort → Option ℕ → Type 0
FitsKey sorts None None = Unit {0}
FitsKey sorts (Some key) (Some place) = IsParameter sorts place key
FitsKey sorts _ _ = ⊥

-- an ask gives values of this kind: `not`, `and` and `or` take and give truth values, `<` takes two numbers or two
-- names, and `+` and `-` take and give numbers
pub data HasKind (components : List ComponentForm) (sorts : List Sort) : AskForm → Kind → Type 0 where
  read : (place n : ℕ) (key : Option ℕ) (component : ComponentForm) (k : Kind) → slice_get components place ≡ Some component → slice_get (component_kinds component) n ≡ Some k
      → FitsKey sorts (key_sort component) key → HasKind components sorts (a_leaf place n key) k
  given : (place : ℕ) (s : Sort) → IsParameter sorts place s → HasKind components sorts (parameter place) (sort_kind s)
  written : (v : Value) → IsWritten v → HasKind components sorts (constant v) (value_kind v)
  denied : {a : AskForm} → HasKind components sorts a kind.Truth → HasKind components sorts (negation a) kind.Truth
  and_of : {a b : AskForm} → HasKind components sorts a kind.Truth → HasKind components sorts b kind.Truth → HasKind components sorts (both a b) kind.Truth
  or_of : {a b : AskForm} → HasKind components sorts a kind.Truth → HasKind components sorts b kind.Truth → HasKind components sorts (either a b) kind.Truth
  numbers_less : {a b : AskForm} → HasKind components sorts a kind.Number → HasKind components sorts b kind.Number → HasKind components sorts (less a b) kind.Truth
  names_less : {a b : AskForm} → HasKind components sorts a kind.Name → HasKind components sorts b kind.Name → HasKind components sorts (less a b) kind.Truth
  sum_of : {a b : AskForm} → HasKind components sorts a kind.Number → HasKind components sorts b kind.Number → HasKind components sorts (sum a b) kind.Number
  difference_of : {a b : AskForm} → HasKind components sorts a kind.Number → HasKind components sorts b kind.Number → HasKind components sorts (difference a b) kind.Number

-- an ask gives what its query gives
abbrev pub Answers : List ComponentForm → AskForm → QuerySig → Type 0
Answers components a query = HasKind components query.sorts a (sort_kind query.sort)

-- a design within the limits whose components and asks are right
pub record IsWellSorted (d : DesignForm) : Type 0 where
  pub few : length d.components ≤ COMPONENT_LIMIT
  pub small : size_of d ≤ SIZE_LIMIT
  pub components : EachHas (IsComponent d.sig.ops) d.components
  pub asks : AreMatched (Answers d.components) d.asks d.sig.queries
