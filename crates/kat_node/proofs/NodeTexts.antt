-- What is printed of a state file has only texts in UTF-8 and numbers of 64 bits, and is read as the value that was printed.
use Rattle.std.proofs.Common.{ℕ, ◌+◌, ◌<◌, ◌≤◌, ℤ, pos, negsuc, List, [], ◌∷◌, map, refl, codes, arith}
use Rattle.std.specs.Prelude.{◌^◌, ◌-◌, ◌≤ℤ◌, neg_ℤ}
use Rattle.std.proofs.lemmas.Int.{ints}
use Rattle.json.proofs.Printed.Utf8.{IsUtf8-are_ascii}
use Rattle.kat_num.specs.declared.values.Value.{Value}
use Rattle.kat_num.specs.declared.values.Value.TheVariants as value
use Rattle.kat_lattice.specs.Tallies.{Sums}
use Rattle.kat_shape.specs.Values.{Filled, leaves_of}
use Rattle.kat_design.specs.Designs.{DesignForm}
use Rattle.kat_design.specs.Sorted.{EachHas, IsWritten}
use Rattle.kat_node.specs.Nodes.{IsNode}
use Rattle.kat_design.specs.declared.states.Part.{Part}
use Rattle.kat_design.specs.declared.states.Part.TheVariants as part
use Rattle.serde_json.specs.Data.{Data, string, depth, items_depth}
use Rattle.serde_json.specs.Find.{of_integer}
use Rattle.serde_json.specs.View.{items_of}
use Rattle.kat_json.specs.Texts.{IsJson}
use Rattle.kat_json.specs.Lists.{list}
use Rattle.kat_json.specs.Printed.{natural, value_data}
use Rattle.kat_json.proofs.PrintedParts.{name_is_text}
use Rattle.kat_json.proofs.RoundTrip.{line_read, line_utf8, IsPlain, IsWholeNumber, plain_items}
use Rattle.kat_node.specs.StateData.{cell_data, entry_data, node_data, node_text, part_data, sum_data, tally_data, state_data}
use Rattle.kat_node.specs.declared.nodes.Node.{Node}
use Rattle.kat_node.specs.Written.{IsWrittenCell, IsWrittenEntry, IsWrittenPart, IsWrittenSum, IsWrittenTally}

number_plain : (z : ℤ) → (neg_ℤ (pos (2 ^ 63)) ≤ℤ z) × (z ≤ℤ pos (2 ^ 64 - 1)) → IsWholeNumber (of_integer z)
number_plain (pos n) h = let most = h.1 in grind (arith, ints, most)
number_plain (negsuc n) h = let least = h.0 in grind (arith, ints, least)

value_plain : (v : Value) → IsWritten v → IsPlain (value_data v)
value_plain (value.Bool b) is = tt
value_plain (value.Num z) is = number_plain z is
value_plain (value.Name code) is = name_is_text code is

each_plain : {A : Type 0} (P : A → Type 0) (f : A → Data) → ((x : A) → P x → IsPlain (f x)) → (xs : List A) → EachHas P xs → EachHas IsPlain (map f xs)
each_plain P f plain [] each = tt
each_plain P f plain (x ∷ xs) each = (plain x each.0, each_plain P f plain xs each.1)

list_plain : {A : Type 0} (P : A → Type 0) (f : A → Data) → ((x : A) → P x → IsPlain (f x)) → (xs : List A) → EachHas P xs → IsPlain (list (map f xs))
list_plain P f plain xs each = plain_items (map f xs) (each_plain P f plain xs each)

cell_plain : (cell : Filled) → IsWrittenCell cell → IsPlain (cell_data cell)
cell_plain cell is = list_plain IsWritten value_data value_plain (leaves_of cell) is

sum_plain : (sum : ℕ × ℕ) → IsWrittenSum sum → IsPlain (sum_data sum)
sum_plain sum is = (is.0, (is.1, tt))

tally_plain : (sums : Sums) → IsWrittenTally sums → IsPlain (tally_data sums)
tally_plain sums is = list_plain IsWrittenSum sum_data sum_plain sums is

entry_plain : {V : Type 0} (P : V → Type 0) (f : V → Data) → ((v : V) → P v → IsPlain (f v)) → (e : Value × V) → IsWrittenEntry P e → IsPlain (entry_data f e)
entry_plain P f plain e is = (value_plain e.0 is.0, (plain e.1 is.1, tt))

part_plain : (p : Part) → IsWrittenPart p → IsPlain (part_data p)
part_plain (part.Cell cell) is = cell_plain cell is
part_plain (part.Table table) is = list_plain (IsWrittenEntry IsWrittenCell) (entry_data cell_data) (entry_plain IsWrittenCell cell_data cell_plain) table.entries is
part_plain (part.Set keys) is = list_plain IsWritten value_data value_plain keys is
part_plain (part.Tally sums) is = tally_plain sums is
part_plain (part.Tallies table) is = list_plain (IsWrittenEntry IsWrittenTally) (entry_data tally_data) (entry_plain IsWrittenTally tally_data tally_plain) table.entries is

-- a number and a clock that a program holds
pub record IsHeld (node : Node) : Type 0 where
  pub number : node.number < 2 ^ 64
  pub clock : node.replica.clock < 2 ^ 64

pub is_held : (d : DesignForm) (node : Node) → IsNode d node → IsHeld node
is_held d node is = let few = is.most in let low = is.clock in record { number = omega (arith, few); clock = omega (arith, low) }

pub node_plain : (node : Node) → IsHeld node → EachHas IsWrittenPart node.replica.state.parts → IsPlain (node_data node)
node_plain node held is =
    (IsUtf8-are_ascii (codes "state") refl, (omega arith, (held.number, (held.clock, (list_plain IsWrittenPart part_data part_plain node.replica.state.parts is, tt)))))

-- lists in a state file are at most six deep
deep_by : (ds : List Data) (n : ℕ) → EachHas (λ d. depth d ≤ n) ds → items_depth (items_of ds) ≤ n
deep_by [] n each = omega arith
deep_by (d ∷ ds) n each = let rest = deep_by ds n each.1 in let first : depth d ≤ n = each.0 in omega (arith, rest, first)

list_deep : (ds : List Data) (n : ℕ) → EachHas (λ d. depth d ≤ n) ds → depth (list ds) ≤ n + 1
list_deep ds n each = let inner = deep_by ds n each in omega (arith, inner)

map_deep : {A : Type 0} (f : A → Data) (n : ℕ) → ((x : A) → depth (f x) ≤ n) → (xs : List A) → EachHas (λ d. depth d ≤ n) (map f xs)
map_deep f n each [] = tt
map_deep f n each (x ∷ xs) = (each x, map_deep f n each xs)

value_deep : (v : Value) → depth (value_data v) ≤ 0
value_deep (value.Bool b) = omega arith
value_deep (value.Num z) = omega arith
value_deep (value.Name code) = omega arith

cell_deep : (cell : Filled) → depth (cell_data cell) ≤ 1
cell_deep cell = list_deep (map value_data (leaves_of cell)) 0 (map_deep value_data 0 value_deep (leaves_of cell))

sum_deep : (sum : ℕ × ℕ) → depth (sum_data sum) ≤ 1
sum_deep sum = list_deep (natural sum.0 ∷ natural sum.1 ∷ []) 0 (omega arith, (omega arith, tt))

tally_deep : (sums : Sums) → depth (tally_data sums) ≤ 2
tally_deep sums = list_deep (map sum_data sums) 1 (map_deep sum_data 1 sum_deep sums)

entry_deep : {V : Type 0} (f : V → Data) → ((v : V) → depth (f v) ≤ 2) → (e : Value × V) → depth (entry_data f e) ≤ 3
entry_deep f each e = let key = value_deep e.0 in let rest = each e.1 in list_deep (value_data e.0 ∷ f e.1 ∷ []) 2 (omega (arith, key), (rest, tt))

part_deep : (p : Part) → depth (part_data p) ≤ 4
part_deep (part.Cell cell) = let deep = cell_deep cell in omega (arith, deep)
part_deep (part.Table table) =
    list_deep (map (entry_data cell_data) table.entries) 3 (map_deep (entry_data cell_data) 3 (entry_deep cell_data (λ cell. let deep = cell_deep cell in omega (arith, deep))) table.entries)
part_deep (part.Set keys) = let deep = list_deep (map value_data keys) 0 (map_deep value_data 0 value_deep keys) in omega (arith, deep)
part_deep (part.Tally sums) = let deep = tally_deep sums in omega (arith, deep)
part_deep (part.Tallies table) = list_deep (map (entry_data tally_data) table.entries) 3 (map_deep (entry_data tally_data) 3 (entry_deep tally_data tally_deep) table.entries)

node_deep : (node : Node) → depth (node_data node) ≤ 127
node_deep node =
    let parts = node.replica.state.parts in
    let state = list_deep (map part_data parts) 4 (map_deep part_data 4 part_deep parts) in
    let all = list_deep (string (codes "state") ∷ natural 1 ∷ natural node.number ∷ natural node.replica.clock ∷ state_data parts ∷ []) 5
    (omega arith, (omega arith, (omega arith, (omega arith, (state, tt))))) in
    omega (arith, all)

-- the text is read as the value that was printed
pub node_read : (node : Node) → IsHeld node → EachHas IsWrittenPart node.replica.state.parts → IsJson (node_text node) (node_data node)
node_read node held has =
    let plain = node_plain node held has in record { utf8 = line_utf8 (node_data node) plain; is_read = line_read (node_data node) plain (node_deep node) }
