-- What a list of operations gives to each component of a design: its denotation.
use Rattle.std.specs.Prelude.{ℕ, ℤ, pos, negsuc, List, [], ◌∷◌, map, Option, None, Some, option_map, if◌then◌else◌}
use Rattle.kat_expr.specs.Evaluation.{number_of}
use Rattle.kat_expr.specs.Slots.{absent, argument}
use Rattle.kat_lattice.specs.Maps.{Table, maps_joined}
use Rattle.kat_lattice.specs.Sets.{sets_joined}
use Rattle.kat_num.specs.Orders.{value_order}
use Rattle.kat_num.specs.declared.values.Value.{Value}
use Rattle.kat_shape.specs.Flats.{filled_with}
use Rattle.kat_shape.specs.Forms.{CellForm}
use Rattle.kat_shape.specs.Values.{Filled, joined, leaves_of}
use Rattle.kat_type.specs.declared.done.Done.{Done}
use Rattle.kat_design.specs.Designs.{ComponentForm, DesignForm}
use Rattle.kat_design.specs.Designs.ComponentForm.{a_cell, a_table, a_set, a_tally, tallies}
use Rattle.kat_design.specs.Effects.{cell_effects, effect_of, key_alone, leaf_value, set_effects}
use Rattle.kat_design.specs.KeyedTallies.{bumped_at, keyed_tallies}
use Rattle.kat_design.specs.Meanings.{Effects, Meaning, all_of, denotation}
use Rattle.kat_design.specs.Parts.{part_joined}
use Rattle.kat_design.specs.Tallied.{bumped, tally_of}
use Rattle.kat_type.specs.Unions.{are_same_values}
use Rattle.kat_design.specs.declared.designs.Leaf.{Leaf}
use Rattle.kat_design.specs.declared.states.Part.{Part}
use Rattle.kat_design.specs.declared.states.Part.TheVariants as part

-- a table that has the start at each key but one, if a value is joined to it; what is the start again is no entry
abbrev pub alone_at : Filled → Value → Filled → Table Value Filled
alone_at start key value = record {
  start = start;
  entries = if are_same_values (leaves_of (joined start value)) (leaves_of start) then [] else (key, joined start value) ∷ [];
}

-- what an operation gives to a table: a value at one key, or nothing
abbrev pub table_effect : CellForm → List Value → Option (ℕ × List Leaf) → Done → Table Value Filled
table_effect shape starts None done = record { start = filled_with shape starts; entries = [] }
table_effect shape starts (Some effect) done =
    alone_at (filled_with shape starts) (argument done.args effect.0) (filled_with shape (map (leaf_value done) effect.1))

abbrev pub table_effects : CellForm → List Value → List (Option (ℕ × List Leaf)) → Effects (Table Value Filled)
table_effects shape starts effects = record {
  start = record { start = filled_with shape starts; entries = [] };
  joined = maps_joined value_order joined;
  effect = λ done. table_effect shape starts (effect_of effects done) done;
}

-- the key that an operation adds to a set
abbrev pub added_key : List (Option ℕ) → Done → Option Value
added_key effects done = option_map (argument done.args) (effect_of effects done)

-- a number as a weight: what is below 0 weighs nothing
abbrev pub natural : ℤ → ℕ
natural (pos n) = n
natural (negsuc n) = 0

-- what an operation adds to the sum of its replica; without an effect nothing
abbrev pub weight_of : Option Leaf → Done → ℕ
weight_of None done = 0
weight_of (Some leaf) done = natural (number_of (leaf_value done leaf))

abbrev pub tally_weight : List (Option Leaf) → Done → ℕ
tally_weight effects done = weight_of (effect_of effects done) done

-- the key and the weight that an operation has in tallies by key
abbrev pub keyed_weight : List (Option (ℕ × Leaf)) → Done → ℕ
keyed_weight effects done = weight_of (option_map (λ (effect : ℕ × Leaf). effect.1) (effect_of effects done)) done

abbrev pub key_given : Option (ℕ × Leaf) → Done → Value
key_given None done = absent
key_given (Some effect) done = argument done.args effect.0

abbrev pub bumped_key : List (Option (ℕ × Leaf)) → Done → Value
bumped_key effects done = key_given (effect_of effects done) done

-- The part that a list of operations gives: a cell is its start joined with the effects, a table that at each key, a
-- set has the keys of the effects, and a tally has for each replica the sum of its weights.
abbrev pub part_of : ComponentForm → List Done → Part
part_of (a_cell shape starts effects) ones = part.Cell (denotation (cell_effects shape starts effects) ones)
part_of (a_table key shape starts effects) ones = part.Table (denotation (table_effects shape starts effects) ones)
part_of (a_set key effects) ones = part.Set (denotation (set_effects value_order (added_key effects)) ones)
part_of (a_tally effects) ones = part.Tally (tally_of (tally_weight effects) ones)
part_of (tallies key effects) ones = part.Tallies ((keyed_tallies value_order (bumped_key effects) (keyed_weight effects)).state_of ones)

-- a cell with one operation more; without an effect it stays
abbrev pub cell_added : CellForm → Filled → Option (List Leaf) → Done → Filled
cell_added shape cell None done = cell
cell_added shape cell (Some leaves) done = joined cell (filled_with shape (map (leaf_value done) leaves))

-- a part with one operation more
abbrev pub part_added : ComponentForm → Part → Done → Part
part_added (a_cell shape starts effects) (part.Cell cell) done = part.Cell (cell_added shape cell (effect_of effects done) done)
part_added (a_table key shape starts effects) (part.Table table) done =
    part.Table (maps_joined value_order joined table (table_effect shape starts (effect_of effects done) done))
part_added (a_set key effects) (part.Set keys) done = part.Set (sets_joined value_order keys (key_alone (added_key effects done)))
part_added (a_tally effects) (part.Tally sums) done = part.Tally (bumped sums done.replica (tally_weight effects done))
part_added (tallies key effects) (part.Tallies table) done =
    part.Tallies (bumped_at value_order table (bumped_key effects done) done.replica (keyed_weight effects done))
part_added component p done = p

abbrev pub component_meaning : ComponentForm → Meaning Part
component_meaning component = record {
  state_of = part_of component;
  joined = part_joined;
  added = part_added component;
}

-- all components of a design together
abbrev pub design_meaning : DesignForm → Meaning (List Part)
design_meaning d = all_of (map component_meaning d.components)

-- the state of a design that a list of operations gives
abbrev pub denotation_of : DesignForm → List Done → List Part
denotation_of d ones = (design_meaning d).state_of ones
