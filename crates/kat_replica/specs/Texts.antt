-- The text of a state: JSON without blanks.
use Rattle.std.specs.Prelude.{ℕ, List, [], ◌∷◌, ◌++◌, map}
use Rattle.std.specs.List.{flat_map}
use Rattle.std.specs.Fmt.{decimal}
use Rattle.kat_num.specs.Values.{value_text}
use Rattle.kat_num.specs.declared.values.Value.{Value}
use Rattle.kat_lattice.specs.Tallies.{Sums}
use Rattle.kat_shape.specs.Values.{Filled, leaves_of}
use Rattle.kat_design.specs.declared.states.Part.{Part}
use Rattle.kat_design.specs.declared.states.Part.TheVariants as part

-- texts with a comma between each two
abbrev pub separated : List (List ℕ) → List ℕ
separated [] = []
separated (text ∷ texts) = text ++ flat_map (λ next. 44 ∷ next) texts

-- a list between brackets
abbrev pub listed : List (List ℕ) → List ℕ
listed texts = 91 ∷ separated texts ++ 93 ∷ []

-- the leaves of a cell
abbrev pub cell_text : Filled → List ℕ
cell_text cell = listed (map value_text (leaves_of cell))

-- a replica with its sum
abbrev pub sum_text : ℕ × ℕ → List ℕ
sum_text sum = listed (decimal sum.0 ∷ decimal sum.1 ∷ [])

-- the replicas with their sums
abbrev pub tally_text : Sums → List ℕ
tally_text sums = listed (map sum_text sums)

-- a key with its value
abbrev pub entry_text : {V : Type 0} → (V → List ℕ) → Value × V → List ℕ
entry_text text entry = listed (value_text entry.0 ∷ text entry.1 ∷ [])

-- A cell is the list of its leaves; a table lists the keys whose value isn't the start, in their order; a set lists its
-- keys, and a tally the replicas with a sum above 0; tallies by key list the keys with such a sum.
abbrev pub part_text : Part → List ℕ
part_text (part.Cell cell) = cell_text cell
part_text (part.Table table) = listed (map (entry_text cell_text) table.entries)
part_text (part.Set keys) = listed (map value_text keys)
part_text (part.Tally sums) = tally_text sums
part_text (part.Tallies table) = listed (map (entry_text tally_text) table.entries)

-- the text of a state: a list with one element for each component
abbrev pub state_text : List Part → List ℕ
state_text parts = listed (map part_text parts)
