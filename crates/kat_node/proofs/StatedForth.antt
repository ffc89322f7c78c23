-- What is printed of a part has the form of its component, and says the part.
use Rattle.std.proofs.Common.{◌≡◌, ℕ, ℤ, pos, false, List, [], ◌∷◌, map, refl, ap, ap₂, ◌∙◌, Option, Some}
use Rattle.std.specs.Prelude.{option_and_then, unwrap_or}
use Rattle.kat_num.specs.declared.values.Sort.{Sort}
use Rattle.kat_num.specs.declared.values.Sort.TheVariants as sort
use Rattle.kat_num.specs.declared.values.Value.{Value}
use Rattle.kat_num.specs.declared.values.Value.TheVariants as value
use Rattle.kat_lattice.specs.Tallies.{Sums}
use Rattle.kat_shape.specs.Values.{leaves_of}
use Rattle.kat_design.specs.Designs.{ComponentForm}
use Rattle.kat_design.specs.Designs.ComponentForm.{a_cell, a_table, a_set, a_tally, tallies}
use Rattle.kat_design.specs.Faults.{Path}
use Rattle.kat_design.specs.Sorted.{EachHas, IsWritten}
use Rattle.kat_design.specs.declared.states.Part.{Part}
use Rattle.kat_design.specs.declared.states.Part.TheVariants as part
use Rattle.serde_json.specs.Data.{Data}
use Rattle.kat_json.specs.FormFaults.{faults_unless, value_faults}
use Rattle.kat_json.specs.Lists.{list}
use Rattle.kat_json.specs.Parts.{value_said}
use Rattle.kat_json.specs.Printed.{integer_data, value_data}
use Rattle.kat_json.specs.Words.{value_of}
use Rattle.kat_json.proofs.Backwards.{found_back}
use Rattle.kat_json.proofs.Forwards.{GoesForth, list_forth, value_forth}
use Rattle.kat_node.specs.Nodes.{AreSums, IsCell, IsEntry, IsKey, IsPart}
use Rattle.kat_node.specs.StateData.{cell_data, entry_data, part_data, sum_data, tally_data}
use Rattle.kat_node.specs.StateForms.{as_key, key_value_faults, key_value_of, key_value_said, stated_faults, stated_said, sum_faults, sum_said, sums_faults, sums_said, two_faults, two_said, values_faults, values_said, whole_faults, whole_said}
use Rattle.kat_node.specs.declared.stated.Stated.{Stated}
use Rattle.kat_node.specs.declared.stated.Stated.TheVariants as stated
use Rattle.kat_node.proofs.Each.{each_by, each_made}
use Rattle.kat_node.proofs.StatedBack.{said_sum_data, stated_data, sums_data, two_data, values_data}

-- what is said of a part
abbrev pub sum_stated : ℕ × ℕ → ℤ × ℤ
sum_stated sum = (pos sum.0, pos sum.1)

abbrev pub sums_stated : Sums → List (ℤ × ℤ)
sums_stated sums = map sum_stated sums

abbrev pub entries_stated : {V A : Type 0} → (V → A) → List (Value × V) → List (Value × A)
entries_stated {V} {A} f es = map (λ (e : Value × V). (e.0, f e.1)) es

abbrev pub part_stated : Part → Stated
part_stated (part.Cell cell) = stated.Cell (leaves_of cell)
part_stated (part.Table table) = stated.Table (entries_stated leaves_of table.entries)
part_stated (part.Set keys) = stated.Set keys
part_stated (part.Tally sums) = stated.Tally (sums_stated sums)
part_stated (part.Tallies table) = stated.Tallies (entries_stated sums_stated table.entries)

-- it is printed as the part is
each_sum_same : (sums : Sums) → map sum_data sums ≡ map said_sum_data (sums_stated sums)
each_sum_same [] = refl
each_sum_same (sum ∷ sums) = ap (λ ds. said_sum_data (sum_stated sum) ∷ ds) (each_sum_same sums)

sums_same : (sums : Sums) → tally_data sums ≡ sums_data (sums_stated sums)
sums_same sums = ap list (each_sum_same sums)

entries_same : {V A : Type 0} (f : V → A) (printed : V → Data) (shown : A → Data) → ((v : V) → printed v ≡ shown (f v)) → (es : List (Value × V))
    → map (entry_data printed) es ≡ map (two_data value_data shown) (entries_stated f es)
entries_same f printed shown same [] = refl
entries_same f printed shown same (e ∷ es) = ap₂ (λ (d : Data) ds. list (value_data e.0 ∷ d ∷ []) ∷ ds) (same e.1) (entries_same f printed shown same es)

pub part_same : (p : Part) → part_data p ≡ stated_data (part_stated p)
part_same (part.Cell cell) = refl
part_same (part.Table table) = ap list (entries_same leaves_of cell_data values_data (λ cell. refl) table.entries)
part_same (part.Set keys) = refl
part_same (part.Tally sums) = sums_same sums
part_same (part.Tallies table) = ap list (entries_same sums_stated tally_data sums_data sums_same table.entries)

-- numbers, and lists of two
pub whole_forth : (n : ℕ) → GoesForth whole_faults whole_said integer_data (pos n)
whole_forth n = record { none = refl; back = refl }

two_forth : {A B : Type 0} (f g : Data → List Path) (said : Data → A) (other : Data → B) (print : A → Data) (shown : B → Data) (e : A × B) → GoesForth f said print e.0 → GoesForth g other shown e.1
    → GoesForth (two_faults f g) (two_said said other) (two_data print shown) e
two_forth f g said other print shown e first second =
    let h = first.none in let k = second.none in record { none = rw (h, k) refl; back = ap₂ (λ x y. (x, y)) first.back second.back }

sum_forth : (sum : ℕ × ℕ) → GoesForth sum_faults sum_said said_sum_data (sum_stated sum)
sum_forth sum = two_forth whole_faults whole_faults whole_said whole_said integer_data integer_data (sum_stated sum) (whole_forth sum.0) (whole_forth sum.1)

each_sum : (sums : Sums) → EachHas (GoesForth sum_faults sum_said said_sum_data) (sums_stated sums)
each_sum [] = tt
each_sum (sum ∷ sums) = (sum_forth sum, each_sum sums)

sums_forth : (sums : Sums) → GoesForth sums_faults sums_said sums_data (sums_stated sums)
sums_forth sums = list_forth sum_faults sum_said said_sum_data (sums_stated sums) (each_sum sums)

values_forth : (vs : List Value) → EachHas IsWritten vs → GoesForth values_faults values_said values_data vs
values_forth vs each = list_forth value_faults value_said value_data vs (each_by IsWritten (GoesForth value_faults value_said value_data) value_forth vs each)

-- keys
pub key_written : (s : Sort) (v : Value) → IsKey s v → IsWritten v
key_written sort.Int (value.Num z) is = is
key_written sort.Nat (value.Num z) is = is.1
key_written sort.Name (value.Name code) is = is
key_written sort.Bool (value.Bool b) is = absurd is
key_written sort.Bool (value.Num z) is = absurd is
key_written sort.Bool (value.Name code) is = absurd is
key_written sort.Int (value.Bool b) is = absurd is
key_written sort.Int (value.Name code) is = absurd is
key_written sort.Nat (value.Bool b) is = absurd is
key_written sort.Nat (value.Name code) is = absurd is
key_written sort.Name (value.Bool b) is = absurd is
key_written sort.Name (value.Num z) is = absurd is

as_key_is : (s : Sort) (v : Value) → IsKey s v → as_key v ≡ Some v
as_key_is s (value.Num z) is = refl
as_key_is s (value.Name code) is = refl
as_key_is sort.Bool (value.Bool b) is = absurd is
as_key_is sort.Int (value.Bool b) is = absurd is
as_key_is sort.Nat (value.Bool b) is = absurd is
as_key_is sort.Name (value.Bool b) is = absurd is

key_forth : (s : Sort) (v : Value) → IsKey s v → GoesForth key_value_faults key_value_said value_data v
key_forth s v is =
    let forth = value_forth v (key_written s v is) in
    let there : value_of (value_data v) ≡ Some v = found_back (value_of (value_data v)) (value.Bool false) forth.none ∙ ap Some forth.back in
    let known : key_value_of (value_data v) ≡ Some v = ap (λ (o : Option Value). option_and_then as_key o) there ∙ as_key_is s v is in
    record { none = ap (λ (o : Option Value). faults_unless o) known; back = ap (λ (o : Option Value). unwrap_or o (value.Num (pos 0))) known }

entries_forth : {V A : Type 0} (key : Sort) (Is : V → Type 0) (f : V → A) (g : Data → List Path) (said : Data → A) (shown : A → Data) → ((v : V) → Is v → GoesForth g said shown (f v))
    → (es : List (Value × V)) → EachHas (IsEntry key Is) es → EachHas (GoesForth (two_faults key_value_faults g) (two_said key_value_said said) (two_data value_data shown)) (entries_stated f es)
entries_forth {V} {A} key Is f g said shown forth es each =
    each_made (IsEntry key Is) (GoesForth (two_faults key_value_faults g) (two_said key_value_said said) (two_data value_data shown)) (λ (e : Value × V). (e.0, f e.1))
    (λ e is. two_forth key_value_faults g key_value_said said value_data shown (e.0, f e.1) (key_forth key e.0 is.0) (forth e.1 is.1)) es each

pub stated_forth : (component : ComponentForm) (p : Part) → IsPart component p → GoesForth (stated_faults component) (stated_said component) stated_data (part_stated p)
stated_forth (a_cell shape starts effects) (part.Cell cell) is =
    let all = values_forth (leaves_of cell) is.written in record { none = all.none; back = ap stated.Cell all.back }
stated_forth (a_table key shape starts effects) (part.Table table) is =
    let all = list_forth (two_faults key_value_faults values_faults) (two_said key_value_said values_said) (two_data value_data values_data) (entries_stated leaves_of table.entries)
    (entries_forth key (IsCell shape) leaves_of values_faults values_said values_data (λ cell h. values_forth (leaves_of cell) h.written) table.entries is.each) in
    record { none = all.none; back = ap stated.Table all.back }
stated_forth (a_set key effects) (part.Set keys) is =
    let all = list_forth key_value_faults key_value_said value_data keys (each_by (IsKey key) (GoesForth key_value_faults key_value_said value_data) (key_forth key) keys is.each) in record { none = all.none; back = ap stated.Set all.back }
stated_forth (a_tally effects) (part.Tally sums) is = let all = sums_forth sums in record { none = all.none; back = ap stated.Tally all.back }
stated_forth (tallies key effects) (part.Tallies table) is =
    let all = list_forth (two_faults key_value_faults sums_faults) (two_said key_value_said sums_said) (two_data value_data sums_data) (entries_stated sums_stated table.entries)
    (entries_forth key AreSums sums_stated sums_faults sums_said sums_data (λ sums h. sums_forth sums) table.entries is.each) in
    record { none = all.none; back = ap stated.Tallies all.back }
stated_forth (a_cell shape starts effects) _ is = absurd is
stated_forth (a_table key shape starts effects) _ is = absurd is
stated_forth (a_set key effects) _ is = absurd is
stated_forth (a_tally effects) _ is = absurd is
stated_forth (tallies key effects) _ is = absurd is
