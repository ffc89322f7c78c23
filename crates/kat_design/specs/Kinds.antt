-- The kinds of values: `int` and `nat` are one kind in a design.
use Rattle.std.specs.Prelude.{ℕ, Bool, true, false, ◌&&◌, List, [], ◌∷◌, ◌++◌, Option, None, Some, slice_get}
use Rattle.kat_num.specs.declared.values.Sort.{Sort}
use Rattle.kat_num.specs.declared.values.Sort.TheVariants as sort
use Rattle.kat_num.specs.declared.values.Value.{Value}
use Rattle.kat_num.specs.declared.values.Value.TheVariants as value
use Rattle.kat_shape.specs.Forms.{CellForm, numbers, names, truths, lex, pair}
use Rattle.kat_design.specs.Designs.{ComponentForm, AskForm}
use Rattle.kat_design.specs.Designs.ComponentForm.{a_cell, a_table, a_set, a_tally, tallies}
use Rattle.kat_design.specs.Designs.AskForm.{leaf, parameter, constant, negation, both, either, less, sum, difference}
use Rattle.kat_design.specs.declared.kinds.Kind.{Kind}
use Rattle.kat_design.specs.declared.kinds.Kind.TheVariants as kind
use Rattle.kat_design.specs.declared.kinds.Wanted.{Wanted}
use Rattle.kat_design.specs.declared.kinds.Wanted.TheVariants.{Exactly, Ordered}

abbrev pub sort_kind : Sort → Kind
sort_kind sort.Bool = kind.Truth
sort_kind sort.Int = kind.Number
sort_kind sort.Nat = kind.Number
sort_kind sort.Name = kind.Name

abbrev pub value_kind : Value → Kind
value_kind (value.Bool b) = kind.Truth
value_kind (value.Num z) = kind.Number
value_kind (value.Name code) = kind.Name

abbrev pub is_kind : Kind → Kind → Bool
is_kind kind.Number kind.Number = true
is_kind kind.Name kind.Name = true
is_kind kind.Truth kind.Truth = true
is_kind _ _ = false

-- whether a kind is accepted: that one, or a number or a name
abbrev pub is_wanted : Wanted → Kind → Bool
is_wanted (Exactly wanted) given = is_kind wanted given
is_wanted Ordered kind.Number = true
is_wanted Ordered kind.Name = true
is_wanted Ordered kind.Truth = false

-- the kinds of a shape's leaves, from the left
abbrev pub kinds_of : CellForm → List Kind
kinds_of numbers = kind.Number ∷ []
kinds_of names = kind.Name ∷ []
kinds_of truths = kind.Truth ∷ []
kinds_of (lex a b) = kinds_of a ++ kinds_of b
kinds_of (pair a b) = kinds_of a ++ kinds_of b

-- a chain: no part of it is a pair
abbrev pub is_chain : CellForm → Bool
is_chain numbers = true
is_chain names = true
is_chain truths = true
is_chain (lex a b) = is_chain a && is_chain b
is_chain (pair a b) = false

-- the kinds of a component's leaves: a set has one that says whether it has a key, and a tally one sum
abbrev pub component_kinds : ComponentForm → List Kind
component_kinds (a_cell shape starts effects) = kinds_of shape
component_kinds (a_table key shape starts effects) = kinds_of shape
component_kinds (a_set key effects) = kind.Truth ∷ []
component_kinds (a_tally effects) = kind.Number ∷ []
component_kinds (tallies key effects) = kind.Number ∷ []

-- the sort of a component's keys
abbrev pub key_sort : ComponentForm → Option Sort
key_sort (a_cell shape starts effects) = None
key_sort (a_table key shape starts effects) = Some key
key_sort (a_set key effects) = Some key
key_sort (a_tally effects) = None
key_sort (tallies key effects) = Some key

-- the kind of a component's leaf, if there are both
abbrev pub leaf_kind : Option ComponentForm → ℕ → Option Kind
leaf_kind None place = None
leaf_kind (Some component) place = slice_get (component_kinds component) place

-- the kind of a parameter, if there is one
abbrev pub parameter_kind : Option Sort → Option Kind
parameter_kind None = None
parameter_kind (Some s) = Some (sort_kind s)

-- the kind of an ask, by its own form
abbrev pub ask_kind : List ComponentForm → List Sort → AskForm → Option Kind
ask_kind components sorts (leaf component place key) = leaf_kind (slice_get components component) place
ask_kind components sorts (parameter place) = parameter_kind (slice_get sorts place)
ask_kind components sorts (constant v) = Some (value_kind v)
ask_kind components sorts (negation a) = Some kind.Truth
ask_kind components sorts (both a b) = Some kind.Truth
ask_kind components sorts (either a b) = Some kind.Truth
ask_kind components sorts (less a b) = Some kind.Truth
ask_kind components sorts (sum a b) = Some kind.Number
ask_kind components sorts (difference a b) = Some kind.Number

-- what is compared with an ask has its kind
abbrev pub like : Option Kind → Wanted
like None = Ordered
like (Some k) = Exactly k
