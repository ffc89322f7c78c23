-- The places of a state file that can't be those of a replica of the design, in the order of the text, and the state that it gives.
use Rattle.std.specs.Prelude.{◌≡◌, ℕ, ℤ, pos, ◌^◌, ◌==◌, Bool, true, false, not, ◌&&◌, ◌||◌, List, [], ◌∷◌, ◌++◌, map, length, Option, None, Some, int_le, ◌≤ℤ◌}
use Rattle.std.specs.Ordering.{is_lt, int_cmp}
use Rattle.kat_num.specs.Orders.{value_order}
use Rattle.kat_num.specs.declared.values.Sort.{Sort}
use Rattle.kat_num.specs.declared.values.Sort.TheVariants as sort
use Rattle.kat_num.specs.declared.values.Value.{Value}
use Rattle.kat_num.specs.declared.values.Value.TheVariants as value
use Rattle.kat_lattice.specs.Tallies.{Sums}
use Rattle.kat_shape.specs.Flats.{filled_with}
use Rattle.kat_shape.specs.Forms.{CellForm}
use Rattle.kat_shape.specs.Values.{Filled, joined, leaves_of, shape_of}
use Rattle.kat_design.specs.Denotations.{natural}
use Rattle.kat_design.specs.Designs.{ComponentForm}
use Rattle.kat_design.specs.Designs.ComponentForm.{a_cell, a_table, a_set, a_tally, tallies}
use Rattle.kat_design.specs.Faults.{Path, each_faults, here_if, is_written, list_faults, start_faults, within}
use Rattle.kat_design.specs.Kinds.{is_kind, kinds_of, value_kind}
use Rattle.kat_type.specs.Unions.{are_same_values}
use Rattle.kat_design.specs.declared.states.Part.{Part}
use Rattle.kat_design.specs.declared.states.Part.TheVariants as part
use Rattle.kat_node.specs.StateForms.{zipped}
use Rattle.kat_node.specs.declared.nodes.Node.{Node}
use Rattle.kat_node.specs.declared.stated.NodeStated.{NodeStated}
use Rattle.kat_node.specs.declared.stated.Stated.{Stated}
use Rattle.kat_node.specs.declared.stated.Stated.TheVariants as stated

-- a number in a range, both ends included
abbrev pub is_between : ℤ → ℕ → ℕ → Bool
is_between z low high = int_le (pos low) z && int_le z (pos high)

abbrev pub range_faults : ℕ → ℕ → ℤ → List Path
range_faults low high z = here_if (not (is_between z low high))

-- a key of the sort: a number of 64 bits, from 0 on for `nat`, or a name
abbrev pub has_key_sort : Sort → Value → Bool
has_key_sort sort.Int (value.Num z) = true
has_key_sort sort.Nat (value.Num z) = int_le (pos 0) z
has_key_sort sort.Name (value.Name code) = true
has_key_sort _ _ = false

abbrev pub key_faults : Sort → Value → List Path
key_faults s v = here_if (not (has_key_sort s v && is_written v))

-- each element with the key of the one before it
abbrev pub with_last : {K E : Type 0} → (E → K) → Option K → List E → List (Option K × E)
with_last key last [] = []
with_last key last (e ∷ es) = (last, e) ∷ with_last key (Some (key e)) es

-- whether a key may come after the last one, if there is one
abbrev pub follows : {K : Type 0} → (K → K → Bool) → Option K → K → Bool
follows ascend None k = true
follows ascend (Some last) k = ascend last k

-- an element whose key may not come after that of the one before it is a fault as a whole
abbrev pub element_faults : {K E : Type 0} → (K → K → Bool) → (E → K) → (E → List Path) → Option K × E → List Path
element_faults ascend key faults pair = here_if (not (follows ascend pair.0 (key pair.1))) ++ faults pair.1

abbrev pub ordered_faults : {K E : Type 0} → (K → K → Bool) → (E → K) → (E → List Path) → List E → List Path
ordered_faults ascend key faults es = each_faults (element_faults ascend key faults) 0 (with_last key None es)

-- two numbers, or two names
abbrev pub have_one_kind : Value → Value → Bool
have_one_kind (value.Num y) (value.Num z) = true
have_one_kind (value.Name code) (value.Name other) = true
have_one_kind _ _ = false

-- keys ascend; a number and a name aren't compared
abbrev pub keys_ascend : Value → Value → Bool
keys_ascend last key = not (have_one_kind last key) || is_lt (value_order last key)

abbrev pub replicas_ascend : ℤ → ℤ → Bool
replicas_ascend last replica = is_lt (int_cmp last replica)

-- keys of the sort that ascend
abbrev pub set_faults : Sort → List Value → List Path
set_faults key keys = ordered_faults keys_ascend (λ v. v) (key_faults key) keys

-- replicas from 1 to 32 that ascend, with sums from 1 to 10^18
abbrev pub sum_entry_faults : ℤ × ℤ → List Path
sum_entry_faults sum = within 0 (range_faults 1 32 sum.0) ++ within 1 (range_faults 1 (10 ^ 18) sum.1)

abbrev pub sums_faults : List (ℤ × ℤ) → List Path
sums_faults sums = ordered_faults replicas_ascend (λ (sum : ℤ × ℤ). sum.0) sum_entry_faults sums

-- used inside only: a replica and a sum in their ranges
pub record IsSaidSum (sum : ℤ × ℤ) : Type 0 where
  pub least_replica : pos 1 ≤ℤ sum.0
  pub most_replica : sum.0 ≤ℤ pos 32
  pub least : pos 1 ≤ℤ sum.1
  pub most : sum.1 ≤ℤ pos (10 ^ 18)

-- leaves that fit the shape
abbrev pub leaves_faults : CellForm → List Value → List Path
leaves_faults shape leaves = list_faults start_faults leaves (kinds_of shape)

abbrev pub are_none : List Path → Bool
are_none [] = true
are_none (path ∷ paths) = false

-- used inside only: whether a leaf may be in a file where a start's is, and so each of a list
abbrev pub is_alike : Value → Value → Bool
is_alike start leaf = is_kind (value_kind start) (value_kind leaf) && is_written leaf

abbrev pub are_alike : List Value → List Value → Bool
are_alike [] leaves = true
are_alike (start ∷ starts) [] = true
are_alike (start ∷ starts) (leaf ∷ leaves) = is_alike start leaf && are_alike starts leaves

-- a value that a table keeps isn't the start, and is its own join with it
abbrev pub is_own : Filled → Filled → Bool
is_own start v = not (are_same_values (leaves_of v) (leaves_of start)) && are_same_values (leaves_of (joined start v)) (leaves_of v)

abbrev pub own_faults : CellForm → Filled → List Value → List Path
own_faults shape start leaves = here_if (are_none (leaves_faults shape leaves) && not (is_own start (filled_with shape leaves)))

abbrev pub table_entry_faults : Sort → CellForm → Filled → Value × List Value → List Path
table_entry_faults key shape start entry = own_faults shape start entry.1 ++ within 0 (key_faults key entry.0) ++ within 1 (leaves_faults shape entry.1)

abbrev pub table_faults : Sort → CellForm → Filled → List (Value × List Value) → List Path
table_faults key shape start entries = ordered_faults keys_ascend (λ (e : Value × List Value). e.0) (table_entry_faults key shape start) entries

-- used inside only: an entry with the key of the one before it
abbrev pub next_faults : Sort → Filled → Option Value × (Value × List Value) → List Path
next_faults key start pair = element_faults keys_ascend (λ (e : Value × List Value). e.0) (table_entry_faults key (shape_of start) start) pair

-- used inside only: the value of leaves that fit the shape, or none if they don't
abbrev pub IsFitted : CellForm → List Value → Option Filled → Type 0
IsFitted shape leaves None = are_none (leaves_faults shape leaves) ≡ false
IsFitted shape leaves (Some v) = (leaves_faults shape leaves ≡ []) × (v ≡ filled_with shape leaves)

abbrev pub is_empty : List (ℤ × ℤ) → Bool
is_empty [] = true
is_empty (sum ∷ sums) = false

abbrev pub tallies_entry_faults : Sort → Value × List (ℤ × ℤ) → List Path
tallies_entry_faults key entry = within 0 (key_faults key entry.0) ++ within 1 (here_if (is_empty entry.1) ++ sums_faults entry.1)

abbrev pub tallies_faults : Sort → List (Value × List (ℤ × ℤ)) → List Path
tallies_faults key entries = ordered_faults keys_ascend (λ (e : Value × List (ℤ × ℤ)). e.0) (tallies_entry_faults key) entries

-- used inside only: the key has a tally, which has a sum
pub record HasSums (entry : Value × List (ℤ × ℤ)) : Type 0 where
  pub some : is_empty entry.1 ≡ false
  pub none : sums_faults entry.1 ≡ []

-- a part of a component; one in the form of another kind doesn't come from a text
abbrev pub part_faults : ComponentForm → Stated → List Path
part_faults (a_cell shape starts effects) (stated.Cell leaves) = leaves_faults shape leaves
part_faults (a_table key shape starts effects) (stated.Table entries) =
    table_faults key shape (filled_with shape starts) entries
part_faults (a_set key effects) (stated.Set keys) = set_faults key keys
part_faults (a_tally effects) (stated.Tally sums) = sums_faults sums
part_faults (tallies key effects) (stated.Tallies entries) = tallies_faults key entries
part_faults _ _ = here_if true

-- the part that is said
abbrev pub sum_made : ℤ × ℤ → ℕ × ℕ
sum_made sum = (natural sum.0, natural sum.1)

abbrev pub cell_entry_made : CellForm → Value × List Value → Value × Filled
cell_entry_made shape entry = (entry.0, filled_with shape entry.1)

abbrev pub tally_entry_made : Value × List (ℤ × ℤ) → Value × Sums
tally_entry_made entry = (entry.0, map sum_made entry.1)

abbrev pub part_made : ComponentForm → Stated → Part
part_made (a_cell shape starts effects) (stated.Cell leaves) = part.Cell (filled_with shape leaves)
part_made (a_table key shape starts effects) (stated.Table entries) =
    part.Table (record { start = filled_with shape starts; entries = map (cell_entry_made shape) entries })
part_made (a_set key effects) (stated.Set keys) = part.Set keys
part_made (a_tally effects) (stated.Tally sums) = part.Tally (map sum_made sums)
part_made (tallies key effects) (stated.Tallies entries) =
    part.Tallies (record { start = []; entries = map tally_entry_made entries })
part_made _ _ = part.Set []

abbrev pub pair_faults : ComponentForm × Stated → List Path
pair_faults pair = part_faults pair.0 pair.1

abbrev pub pair_made : ComponentForm × Stated → Part
pair_made pair = part_made pair.0 pair.1

-- a file after its name and version: a number from 1 to 32, a clock to 10^9, and as many parts as components
abbrev pub possible_faults : List ComponentForm → NodeStated → List Path
possible_faults components node =
    within 2 (range_faults 1 32 node.number) ++ within 3 (range_faults 0 (10 ^ 9) node.clock)
    ++ within 4 (here_if (not (node.count == length components)) ++ each_faults pair_faults 0 (zipped components node.parts))

abbrev pub parts_made : List ComponentForm → List Stated → List Part
parts_made components parts = map pair_made (zipped components parts)

-- the node that is said
abbrev pub node_made : List ComponentForm → NodeStated → Node
node_made components node = record {
  number = natural node.number;
  replica = record { clock = natural node.clock; state = record { parts = parts_made components node.parts } };
}
