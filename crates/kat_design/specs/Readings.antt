-- Used inside only.
-- What the parts of a denotation say: at each key of a table or a set, and of each replica of a tally.
use Rattle.std.specs.Prelude.{◌≡◌, ℕ, Bool, false, List, map, Option, None, Some, option_map, filter}
use Rattle.std.specs.List.{list_any}
use Rattle.std.specs.Ordering.{is_eq}
use Rattle.kat_expr.specs.Slots.{argument}
use Rattle.kat_lattice.specs.Maps.{at_key}
use Rattle.kat_lattice.specs.Sets.{has_key}
use Rattle.kat_lattice.specs.Tallies.{sum_of}
use Rattle.kat_num.specs.Orders.{value_order}
use Rattle.kat_num.specs.declared.values.Value.{Value}
use Rattle.kat_shape.specs.Forms.{CellForm, IsGoodForm}
use Rattle.kat_type.specs.declared.done.Done.{Done}
use Rattle.kat_design.specs.Denotations.{added_key, bumped_key, keyed_weight, table_effects, tally_weight}
use Rattle.kat_design.specs.Effects.{cell_effects, effect_of, set_effects}
use Rattle.kat_design.specs.KeyedTallies.{table_of}
use Rattle.kat_design.specs.Meanings.{denotation}
use Rattle.kat_design.specs.Tallied.{sum_done, tally_of}
use Rattle.kat_design.specs.declared.designs.Leaf.{Leaf}

-- the key of an operation, if it has an effect at a key
abbrev pub key_of_effect : {A : Type 0} → List (Option (ℕ × A)) → Done → Option Value
key_of_effect {A} effects done = option_map (λ (effect : ℕ × A). argument done.args effect.0) (effect_of effects done)

-- the key is the one that is given
abbrev pub is_given : Value → Option Value → Bool
is_given key None = false
is_given key (Some given) = is_eq (value_order key given)

-- the operations whose key it is
abbrev pub given_at : (Done → Option Value) → Value → List Done → List Done
given_at key_of key ones = filter (λ one. is_given key (key_of one)) ones

-- the leaves of each effect, without its key
abbrev pub leaves_given : List (Option (ℕ × List Leaf)) → List (Option (List Leaf))
leaves_given effects = map (option_map (λ (effect : ℕ × List Leaf). effect.1)) effects

-- a table is at each key the cell of the operations whose key it is: the start joined with their effects
abbrev pub TablesAreCells : Type 0
TablesAreCells = (shape : CellForm) (starts : List Value) (effects : List (Option (ℕ × List Leaf))) (ones : List Done) (key : Value) → IsGoodForm shape
    → at_key value_order (denotation (table_effects shape starts effects) ones) key ≡ denotation (cell_effects shape starts (leaves_given effects)) (given_at (key_of_effect effects) key ones)

-- a set has the keys that some operation adds, and no others
abbrev pub SetsHaveAdded : Type 0
SetsHaveAdded = (effects : List (Option ℕ)) (ones : List Done) (key : Value)
    → has_key value_order key (denotation (set_effects value_order (added_key effects)) ones) ≡ list_any (λ one. is_given key (added_key effects one)) ones

-- a tally has for each replica the sum of the weights of its operations
abbrev pub TalliesSum : Type 0
TalliesSum = (effects : List (Option Leaf)) (ones : List Done) (replica : ℕ) → sum_of (tally_of (tally_weight effects) ones) replica ≡ sum_done (tally_weight effects) replica ones

-- tallies by key have at each key that sum of the operations whose key it is
abbrev pub KeyedTalliesSum : Type 0
KeyedTalliesSum = (effects : List (Option (ℕ × Leaf))) (ones : List Done) (key : Value) (replica : ℕ)
    → sum_of (at_key value_order (table_of value_order (bumped_key effects) (keyed_weight effects) ones) key) replica
    ≡ sum_done (keyed_weight effects) replica (given_at (key_of_effect effects) key ones)
