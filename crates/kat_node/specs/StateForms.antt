-- The places of a state file that don't have its form, in the order of the text, and what it says. The form of a part is that of
-- its component's kind.
use Rattle.std.specs.Prelude.{ℕ, ◌+◌, ℤ, pos, true, List, [], ◌∷◌, ◌++◌, drop, map, length, Option, None, Some, option_and_then, unwrap_or}
use Rattle.kat_num.specs.declared.values.Value.{Value}
use Rattle.kat_num.specs.declared.values.Value.TheVariants as value
use Rattle.kat_design.specs.Designs.{ComponentForm}
use Rattle.kat_design.specs.Designs.ComponentForm.{a_cell, a_table, a_set, a_tally, tallies}
use Rattle.kat_design.specs.Faults.{Path, each_faults, here_if, within}
use Rattle.serde_json.specs.Data.{Data, Items, no_items, item, null, boolean, number, string, array, object}
use Rattle.kat_json.specs.FormFaults.{faults_unless, in_list, list_of_faults, part_faults, past_faults, value_faults}
use Rattle.kat_json.specs.Lists.{elements_of}
use Rattle.kat_json.specs.Parts.{list_said, part_said, value_said}
use Rattle.kat_json.specs.Words.{named, value_of, whole_of, whole_of_number}
use Rattle.kat_node.specs.declared.stated.NodeStated.{NodeStated}
use Rattle.kat_node.specs.declared.stated.Stated.{Stated}
use Rattle.kat_node.specs.declared.stated.Stated.TheVariants as stated

-- a whole number of 64 bits
abbrev pub whole_faults : Data → List Path
whole_faults d = faults_unless (whole_of d)

abbrev pub whole_said : Data → ℤ
whole_said d = unwrap_or (whole_of d) (pos 0)

-- a list of two
abbrev pub two_parts_faults : (Data → List Path) → (Data → List Path) → List Data → List Path
two_parts_faults first second parts = part_faults first 0 parts ++ part_faults second 1 parts ++ past_faults 2 parts

abbrev pub two_faults : (Data → List Path) → (Data → List Path) → Data → List Path
two_faults first second d = in_list (two_parts_faults first second) d

abbrev pub two_said : {A B : Type 0} → (Data → A) → (Data → B) → Data → A × B
two_said first second d = (part_said first 0 (elements_of d), part_said second 1 (elements_of d))

-- a replica with its sum, and a tally
abbrev pub sum_faults : Data → List Path
sum_faults d = two_faults whole_faults whole_faults d

abbrev pub sum_said : Data → ℤ × ℤ
sum_said d = two_said whole_said whole_said d

abbrev pub sums_faults : Data → List Path
sums_faults d = list_of_faults sum_faults d

abbrev pub sums_said : Data → List (ℤ × ℤ)
sums_said d = list_said sum_said d

-- leaves
abbrev pub values_faults : Data → List Path
values_faults d = list_of_faults value_faults d

abbrev pub values_said : Data → List Value
values_said d = list_said value_said d

-- a key: a whole number or a name
abbrev pub as_key : Value → Option Value
as_key (value.Bool b) = None
as_key (value.Num z) = Some (value.Num z)
as_key (value.Name code) = Some (value.Name code)

abbrev pub key_value_of : Data → Option Value
key_value_of d = option_and_then as_key (value_of d)

abbrev pub key_value_faults : Data → List Path
key_value_faults d = faults_unless (key_value_of d)

abbrev pub key_value_said : Data → Value
key_value_said d = unwrap_or (key_value_of d) (value.Num (pos 0))

-- a part by its component
abbrev pub stated_faults : ComponentForm → Data → List Path
stated_faults (a_cell shape starts effects) d = values_faults d
stated_faults (a_table key shape starts effects) d = list_of_faults (two_faults key_value_faults values_faults) d
stated_faults (a_set key effects) d = list_of_faults key_value_faults d
stated_faults (a_tally effects) d = sums_faults d
stated_faults (tallies key effects) d = list_of_faults (two_faults key_value_faults sums_faults) d

abbrev pub stated_said : ComponentForm → Data → Stated
stated_said (a_cell shape starts effects) d = stated.Cell (values_said d)
stated_said (a_table key shape starts effects) d = stated.Table (list_said (two_said key_value_said values_said) d)
stated_said (a_set key effects) d = stated.Set (list_said key_value_said d)
stated_said (a_tally effects) d = stated.Tally (sums_said d)
stated_said (tallies key effects) d = stated.Tallies (list_said (two_said key_value_said sums_said) d)

-- each element with the one of another list
abbrev pub zipped : {A B : Type 0} → List A → List B → List (A × B)
zipped [] ys = []
zipped (x ∷ xs) [] = []
zipped (x ∷ xs) (y ∷ ys) = (x, y) ∷ zipped xs ys

abbrev pub pair_stated_faults : ComponentForm × Data → List Path
pair_stated_faults pair = stated_faults pair.0 pair.1

abbrev pub pair_stated_said : ComponentForm × Data → Stated
pair_stated_said pair = stated_said pair.0 pair.1

-- a value, or a list of such
abbrev mutual
  pub any_faults : Data → List Path
  any_faults null = here_if true
  any_faults (boolean b) = []
  any_faults (number n) = faults_unless (whole_of_number n)
  any_faults (string s) = faults_unless (named s)
  any_faults (array ds) = any_items_faults 0 ds
  any_faults (object ms) = here_if true

  pub any_items_faults : ℕ → Items → List Path
  any_items_faults index no_items = []
  any_items_faults index (item d ds) = within index (any_faults d) ++ any_items_faults (index + 1) ds

-- a part past the components: a list
abbrev pub extra_faults : Data → List Path
extra_faults d = list_of_faults any_faults d

abbrev pub extra_parts_faults : ℕ → List Data → List Path
extra_parts_faults count ds = each_faults extra_faults count (drop count ds)

-- the parts of a state; whether there are as many as components is no matter of form
abbrev pub stated_parts_faults : List ComponentForm → List Data → List Path
stated_parts_faults components ds = each_faults pair_stated_faults 0 (zipped components ds)

abbrev pub stated_parts_said : List ComponentForm → List Data → List Stated
stated_parts_said components ds = map pair_stated_said (zipped components ds)

abbrev pub parts_faults : List ComponentForm → List Data → List Path
parts_faults components ds = stated_parts_faults components ds ++ extra_parts_faults (length components) ds

abbrev pub state_faults : List ComponentForm → Data → List Path
state_faults components d = in_list (parts_faults components) d

abbrev pub state_said : List ComponentForm → Data → List Stated
state_said components d = stated_parts_said components (elements_of d)

-- how many parts a state has
abbrev pub count_said : Data → ℕ
count_said d = length (elements_of d)

-- a state file after its name and version: a number, a clock and a state
abbrev pub node_faults : List ComponentForm → List Data → List Path
node_faults components parts = part_faults whole_faults 2 parts ++ part_faults whole_faults 3 parts ++ part_faults (state_faults components) 4 parts ++ past_faults 5 parts

abbrev pub node_said : List ComponentForm → List Data → NodeStated
node_said components parts = record {
  number = part_said whole_said 2 parts;
  clock = part_said whole_said 3 parts;
  count = part_said count_said 4 parts;
  parts = part_said (state_said components) 4 parts;
}
