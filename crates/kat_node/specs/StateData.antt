-- The text of a state file: the value that is printed for each part.
use Rattle.std.specs.Prelude.{ℕ, List, [], ◌∷◌, ◌++◌, map, codes}
use Rattle.kat_num.specs.declared.values.Value.{Value}
use Rattle.kat_lattice.specs.Tallies.{Sums}
use Rattle.kat_shape.specs.Values.{Filled, leaves_of}
use Rattle.kat_design.specs.declared.states.Part.{Part}
use Rattle.kat_design.specs.declared.states.Part.TheVariants as part
use Rattle.kat_node.specs.declared.nodes.Node.{Node}
use Rattle.serde_json.specs.Data.{Data, string}
use Rattle.serde_json.specs.Written.{compact_text}
use Rattle.kat_json.specs.Lists.{list}
use Rattle.kat_json.specs.Printed.{natural, value_data}

-- the leaves of a cell
abbrev pub cell_data : Filled → Data
cell_data cell = list (map value_data (leaves_of cell))

-- a replica with its sum
abbrev pub sum_data : ℕ × ℕ → Data
sum_data sum = list (natural sum.0 ∷ natural sum.1 ∷ [])

abbrev pub tally_data : Sums → Data
tally_data sums = list (map sum_data sums)

-- a key with its value
abbrev pub entry_data : {V : Type 0} → (V → Data) → Value × V → Data
entry_data data_of entry = list (value_data entry.0 ∷ data_of entry.1 ∷ [])

abbrev pub part_data : Part → Data
part_data (part.Cell cell) = cell_data cell
part_data (part.Table table) = list (map (entry_data cell_data) table.entries)
part_data (part.Set keys) = list (map value_data keys)
part_data (part.Tally sums) = tally_data sums
part_data (part.Tallies table) = list (map (entry_data tally_data) table.entries)

abbrev pub state_data : List Part → Data
state_data parts = list (map part_data parts)

-- a state file: the replica's number, its clock and its state
abbrev pub node_data : Node → Data
node_data node =
    list (string (codes "state") ∷ natural 1 ∷ natural node.number ∷ natural node.replica.clock ∷ state_data node.replica.state.parts ∷ [])

-- the compact text, and a newline
abbrev pub node_text : Node → List ℕ
node_text node = compact_text (node_data node) ++ codes "\n"
