-- The size of a design: the nodes of its shapes and asks, one for each further part that it keeps, and the leaves of its effects.
use Rattle.std.specs.Prelude.{ℕ, ◌+◌, List, Option, None, Some, length, sum_by}
use Rattle.kat_shape.specs.Forms.{nodes_of}
use Rattle.kat_design.specs.Designs.{ComponentForm, AskForm, DesignForm}
use Rattle.kat_design.specs.Designs.ComponentForm.{a_cell, a_table, a_set, a_tally, tallies}
use Rattle.kat_design.specs.Designs.AskForm.{leaf, parameter, constant, negation, both, either, less, sum, difference}
use Rattle.kat_design.specs.declared.designs.Leaf.{Leaf}

-- the leaves of an effect on a cell, and of one on a table, whose key counts nothing
abbrev pub cell_leaves : Option (List Leaf) → ℕ
cell_leaves None = 0
cell_leaves (Some leaves) = length leaves

abbrev pub table_leaves : Option (ℕ × List Leaf) → ℕ
table_leaves None = 0
table_leaves (Some effect) = length effect.1

-- an effect on a set, a tally or `tallies` counts one
abbrev pub one_leaf : {A : Type 0} → Option A → ℕ
one_leaf None = 0
one_leaf (Some effect) = 1

abbrev pub component_size : ComponentForm → ℕ
component_size (a_cell shape starts effects) = nodes_of shape + sum_by cell_leaves effects
component_size (a_table key shape starts effects) = 1 + nodes_of shape + sum_by table_leaves effects
component_size (a_set key effects) = 1 + sum_by one_leaf effects
component_size (a_tally effects) = 1 + sum_by one_leaf effects
component_size (tallies key effects) = 2 + sum_by one_leaf effects

-- the nodes of an ask
abbrev pub ask_nodes : AskForm → ℕ
ask_nodes (leaf component place key) = 1
ask_nodes (parameter place) = 1
ask_nodes (constant v) = 1
ask_nodes (negation a) = 1 + ask_nodes a
ask_nodes (both a b) = 1 + ask_nodes a + ask_nodes b
ask_nodes (either a b) = 1 + ask_nodes a + ask_nodes b
ask_nodes (less a b) = 1 + ask_nodes a + ask_nodes b
ask_nodes (sum a b) = 1 + ask_nodes a + ask_nodes b
ask_nodes (difference a b) = 1 + ask_nodes a + ask_nodes b

abbrev pub size_of : DesignForm → ℕ
size_of d = sum_by component_size d.components + sum_by ask_nodes d.asks
