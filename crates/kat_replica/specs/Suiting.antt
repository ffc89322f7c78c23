-- Used inside only.
-- What a part needs for an operation, and what becomes of it, by its own shape.
use Rattle.std.specs.Prelude.{◌≡◌, ◌≤◌, ℕ, true, List, [], ◌∷◌, map, Option, None, Some, IfSome}
use Rattle.std.specs.List.{list_all}
use Rattle.kat_num.specs.Orders.{value_order}
use Rattle.kat_num.specs.declared.values.TheConstants.{NUMBER_LIMIT}
use Rattle.kat_num.specs.declared.values.Value.{Value}
use Rattle.kat_expr.specs.Slots.{argument}
use Rattle.kat_lattice.specs.Maps.{IsMap, Table, maps_joined}
use Rattle.kat_lattice.specs.Sets.{sets_joined}
use Rattle.kat_lattice.specs.Tallies.{Sums}
use Rattle.kat_shape.specs.Flats.{filled_with}
use Rattle.kat_shape.specs.Forms.{CellForm, IsGoodForm, leaf_kind_of, leaf_kinds_of}
use Rattle.kat_shape.specs.Values.{Filled, OneShape, joined, shape_of}
use Rattle.kat_type.specs.declared.done.Done.{Done}
use Rattle.kat_design.specs.Denotations.{added_key, alone_at, bumped_key, cell_added, keyed_weight, tally_weight}
use Rattle.kat_design.specs.Designs.{ComponentForm}
use Rattle.kat_design.specs.Designs.ComponentForm.{a_cell, a_table, a_set, a_tally, tallies}
use Rattle.kat_design.specs.Effects.{effect_of, key_alone, leaf_value}
use Rattle.kat_design.specs.KeyedTallies.{bumped_at}
use Rattle.kat_design.specs.Small.{is_roomy}
use Rattle.kat_design.specs.Tallied.{bumped}
use Rattle.kat_design.specs.declared.designs.Leaf.{Leaf}
use Rattle.kat_design.specs.declared.states.Part.{Part}
use Rattle.kat_design.specs.declared.states.Part.TheVariants as part

-- the values of the leaves are one for each leaf of the shape, each of its kind
abbrev pub GivesLeaves : CellForm → Done → List Leaf → Type 0
GivesLeaves shape done leaves = map leaf_kind_of (map (leaf_value done) leaves) ≡ leaf_kinds_of shape

-- the part is one of the component, the operation's effect fits it, and its weight has room
abbrev pub Suits : Done → Part → ComponentForm → Type 0
Suits done (part.Cell cell) (a_cell shape starts effects) = IfSome (effect_of effects done) (GivesLeaves (shape_of cell) done)
Suits done (part.Table table) (a_table key shape starts effects) =
    IsMap value_order OneShape joined table × IsGoodForm (shape_of table.start) × IfSome (effect_of effects done) (λ effect. GivesLeaves (shape_of table.start) done effect.1)
Suits done (part.Set keys) (a_set key effects) = Unit {0}
Suits done (part.Tally sums) (a_tally effects) = (tally_weight effects done ≤ NUMBER_LIMIT) × (is_roomy sums ≡ true)
Suits done (part.Tallies table) (tallies key effects) =
    (keyed_weight effects done ≤ NUMBER_LIMIT) × (table.start ≡ []) × (list_all (λ (e : Value × Sums). is_roomy e.1) table.entries ≡ true)
Suits done _ _ = ⊥

-- part by part
abbrev pub SuitEach : Done → List Part → List ComponentForm → Type 0
SuitEach done [] [] = Unit {0}
SuitEach done (p ∷ parts) (component ∷ components) = Suits done p component × SuitEach done parts components
SuitEach done _ _ = ⊥

-- a table with the effect of an operation: the value at one key is joined
abbrev pub table_with : CellForm → Table Value Filled → Option (ℕ × List Leaf) → Done → Table Value Filled
table_with shape table None done = table
table_with shape table (Some effect) done =
    maps_joined value_order joined table (alone_at table.start (argument done.args effect.0) (filled_with shape (map (leaf_value done) effect.1)))

-- a part with the effect of an operation
abbrev pub part_with : Part → ComponentForm → Done → Part
part_with (part.Cell cell) (a_cell shape starts effects) done = part.Cell (cell_added (shape_of cell) cell (effect_of effects done) done)
part_with (part.Table table) (a_table key shape starts effects) done = part.Table (table_with (shape_of table.start) table (effect_of effects done) done)
part_with (part.Set keys) (a_set key effects) done = part.Set (sets_joined value_order keys (key_alone (added_key effects done)))
part_with (part.Tally sums) (a_tally effects) done = part.Tally (bumped sums done.replica (tally_weight effects done))
part_with (part.Tallies table) (tallies key effects) done =
    part.Tallies (bumped_at value_order table (bumped_key effects done) done.replica (keyed_weight effects done))
part_with p _ done = p

-- part by part
abbrev pub parts_with : List Part → List ComponentForm → Done → List Part
parts_with [] components done = []
parts_with (p ∷ parts) [] done = p ∷ parts
parts_with (p ∷ parts) (component ∷ components) done = part_with p component done ∷ parts_with parts components done
