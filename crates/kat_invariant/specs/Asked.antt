-- What a design answers in a situation.
use Rattle.std.specs.Prelude.{◌≡◌, ℕ, false, not, ◌&&◌, ◌||◌, List, Option, None, Some, slice_get, pos, ◌+ℤ◌, ◌-ℤ◌}
use Rattle.kat_num.specs.Orders.{value_order}
use Rattle.kat_num.specs.declared.values.Sort.{Sort}
use Rattle.kat_num.specs.declared.values.Value.{Value}
use Rattle.kat_num.specs.declared.values.Value.TheVariants as value
use Rattle.kat_expr.specs.Evaluation.{is_less, number_of, truth_of}
use Rattle.kat_expr.specs.Slots.{absent, argument}
use Rattle.kat_lattice.specs.Maps.{at_key}
use Rattle.kat_lattice.specs.Sets.{has_key}
use Rattle.kat_lattice.specs.Tallies.{total_of}
use Rattle.kat_design.specs.Answers.{ask_at, ask_value}
use Rattle.kat_design.specs.Designs.{AskForm, ComponentForm, DesignForm}
use Rattle.kat_design.specs.Designs.AskForm.{leaf as a_leaf, parameter, constant, negation, both, either, less, sum, difference}
use Rattle.kat_design.specs.Kinds.{key_sort}
use Rattle.kat_design.specs.Sorted.{HasKind}
use Rattle.kat_design.specs.declared.kinds.Kind.{Kind}
use Rattle.kat_design.specs.declared.states.Part.{Part}
use Rattle.kat_design.specs.declared.states.Part.TheVariants as part
use Rattle.kat_invariant.specs.Situations.{Held, leaf_in}
use Rattle.kat_invariant.specs.Situations.Held.{cell, member, total}

-- the key that a leaf is read at; without one what has no keys is read
abbrev pub key_given : Option ℕ → List Value → Value
key_given None args = absent
key_given (Some place) args = argument args place

-- the value of an ask over what is held, over unbounded whole numbers
abbrev pub ask_held : AskForm → (ℕ → Value → Held) → List Value → Value
ask_held (a_leaf component place key) held args = leaf_in (held component (key_given key args)) place
ask_held (parameter place) held args = argument args place
ask_held (constant v) held args = v
ask_held (negation a) held args = value.Bool (not (truth_of (ask_held a held args)))
ask_held (both a b) held args = value.Bool (truth_of (ask_held a held args) && truth_of (ask_held b held args))
ask_held (either a b) held args = value.Bool (truth_of (ask_held a held args) || truth_of (ask_held b held args))
ask_held (less a b) held args = value.Bool (is_less (ask_held a held args) (ask_held b held args))
ask_held (sum a b) held args = value.Num (number_of (ask_held a held args) +ℤ number_of (ask_held b held args))
ask_held (difference a b) held args = value.Num (number_of (ask_held a held args) -ℤ number_of (ask_held b held args))

-- the answer of a design to a query
abbrev pub asked : DesignForm → (ℕ → Value → Held) → ℕ → List Value → Value
asked d held query args = ask_held (ask_at d query) held args

-- what a part of a state holds at a key
abbrev pub part_held : Option Part → Value → Held
part_held None key = member false
part_held (Some (part.Cell c)) key = cell c
part_held (Some (part.Table table)) key = cell (at_key value_order table key)
part_held (Some (part.Set keys)) key = member (has_key value_order key keys)
part_held (Some (part.Tally sums)) key = total (pos (total_of sums))
part_held (Some (part.Tallies table)) key = total (pos (total_of (at_key value_order table key)))

-- what a state of a design holds
abbrev pub parts_held : List Part → ℕ → Value → Held
parts_held parts component key = part_held (slice_get parts component) key

-- a part is one of a component: one that has keys if the component has
abbrev pub IsPartOf : Option Sort → Part → Type 0
IsPartOf None (part.Cell c) = Unit {0}
IsPartOf None (part.Tally sums) = Unit {0}
IsPartOf (Some key) (part.Table table) = Unit {0}
IsPartOf (Some key) (part.Set keys) = Unit {0}
IsPartOf (Some key) (part.Tallies table) = Unit {0}
IsPartOf _ _ = ⊥

abbrev pub ArePartsOf : List ComponentForm → List Part → Type 0
ArePartsOf components parts = (place : ℕ) (component : ComponentForm) → slice_get components place ≡ Some component → (p : Part) → slice_get parts place ≡ Some p → IsPartOf (key_sort component) p

-- what an ask gives in a state of the design is what it gives over what the state holds
abbrev pub AsksAreHeld : Type 0
AsksAreHeld = (components : List ComponentForm) (sorts : List Sort) (a : AskForm) (k : Kind) (parts : List Part) (args : List Value)
    → HasKind components sorts a k → ArePartsOf components parts → ask_value a parts args ≡ ask_held a (parts_held parts) args
