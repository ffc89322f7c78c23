-- What has the form of a state file is what is printed of what it says.
use Rattle.std.proofs.Common.{◌≡◌, ℤ, pos, List, [], ◌∷◌, map, refl, sym, ap, ◌∙◌, Option, None, Some}
use Rattle.std.specs.Prelude.{option_and_then}
use Rattle.kat_num.specs.declared.values.Value.{Value}
use Rattle.kat_num.specs.declared.values.Value.TheVariants as value
use Rattle.kat_design.specs.Designs.{ComponentForm}
use Rattle.kat_design.specs.Designs.ComponentForm.{a_cell, a_table, a_set, a_tally, tallies}
use Rattle.kat_design.specs.Faults.{Path}
use Rattle.serde_json.specs.Data.{Data}
use Rattle.kat_json.specs.FormFaults.{part_faults, past_faults}
use Rattle.kat_json.specs.Lists.{at_place, elements_of, list}
use Rattle.kat_json.specs.Printed.{integer_data, value_data}
use Rattle.kat_json.specs.Words.{value_of, whole_of}
use Rattle.kat_json.proofs.AtomsBack.{value_back, whole_data}
use Rattle.kat_json.proofs.Backwards.{GoesBack, found_back, in_list_back, list_goes_back, none_some, part_back, past_back, some_same, two_parts}
use Rattle.kat_json.proofs.PartsBack.{none_three, parts_two, values_go_back}
use Rattle.kat_node.specs.StateForms.{as_key, key_value_faults, key_value_of, key_value_said, stated_faults, stated_said, sum_faults, sum_said, sums_faults, sums_said, two_faults, two_parts_faults, two_said, values_faults, values_said, whole_faults, whole_said}
use Rattle.kat_node.specs.declared.stated.Stated.{Stated}
use Rattle.kat_node.specs.declared.stated.Stated.TheVariants as stated

-- what is printed of what is said
abbrev pub two_data : {A B : Type 0} → (A → Data) → (B → Data) → A × B → Data
two_data first second pair = list (first pair.0 ∷ second pair.1 ∷ [])

abbrev pub values_data : List Value → Data
values_data vs = list (map value_data vs)

abbrev pub said_sum_data : ℤ × ℤ → Data
said_sum_data sum = two_data integer_data integer_data sum

abbrev pub sums_data : List (ℤ × ℤ) → Data
sums_data sums = list (map said_sum_data sums)

abbrev pub stated_data : Stated → Data
stated_data (stated.Cell leaves) = values_data leaves
stated_data (stated.Table entries) = list (map (two_data value_data values_data) entries)
stated_data (stated.Set keys) = values_data keys
stated_data (stated.Tally sums) = sums_data sums
stated_data (stated.Tallies entries) = list (map (two_data value_data sums_data) entries)

pub whole_goes_back : GoesBack whole_faults whole_said integer_data
whole_goes_back d none = whole_data d (whole_said d) (found_back (whole_of d) (pos 0) none)

two_goes_back : {A B : Type 0} (f g : Data → List Path) (said : Data → A) (other : Data → B) (print : A → Data) (shown : B → Data) → GoesBack f said print → GoesBack g other shown
    → GoesBack (two_faults f g) (two_said said other) (two_data print shown)
two_goes_back f g said other print shown first second d none =
    let got = in_list_back (two_parts_faults f g) d none in
    let ds = elements_of d in
    let parts = none_three (part_faults f 0 ds) (part_faults g 1 ds) (past_faults 2 ds) got.1 in
    let one = part_back f 0 ds parts.0 in
    let two = part_back g 1 ds parts.1 in
    parts_two (print (said (at_place ds 0))) (shown (other (at_place ds 1))) (at_place ds 0) (at_place ds 1) (first (at_place ds 0) one.1) (second (at_place ds 1) two.1)
    ∙ sym (ap list (two_parts ds two.0 (past_back 2 ds parts.2))) ∙ sym got.0

-- a key is its own value
as_key_same : (v w : Value) → as_key v ≡ Some w → v ≡ w
as_key_same (value.Bool b) w h = none_some w h
as_key_same (value.Num z) w h = some_same (value.Num z) w h
as_key_same (value.Name code) w h = some_same (value.Name code) w h

key_by : (d : Data) (o : Option Value) (w : Value) → value_of d ≡ o → option_and_then as_key o ≡ Some w → value_data w ≡ d
key_by d None w is h = none_some w h
key_by d (Some v) w is h = value_back d w (is ∙ ap Some (as_key_same v w h))

key_goes_back : GoesBack key_value_faults key_value_said value_data
key_goes_back d none = key_by d (value_of d) (key_value_said d) refl (found_back (key_value_of d) (value.Num (pos 0)) none)

sum_goes_back : GoesBack sum_faults sum_said said_sum_data
sum_goes_back = two_goes_back whole_faults whole_faults whole_said whole_said integer_data integer_data whole_goes_back whole_goes_back

sums_go_back : GoesBack sums_faults sums_said sums_data
sums_go_back = list_goes_back sum_faults sum_said said_sum_data sum_goes_back

pub stated_goes_back : (component : ComponentForm) → GoesBack (stated_faults component) (stated_said component) stated_data
stated_goes_back (a_cell shape starts effects) d none = values_go_back d none
stated_goes_back (a_table key shape starts effects) d none =
    list_goes_back (two_faults key_value_faults values_faults) (two_said key_value_said values_said) (two_data value_data values_data)
    (two_goes_back key_value_faults values_faults key_value_said values_said value_data values_data key_goes_back values_go_back) d none
stated_goes_back (a_set key effects) d none = list_goes_back key_value_faults key_value_said value_data key_goes_back d none
stated_goes_back (a_tally effects) d none = sums_go_back d none
stated_goes_back (tallies key effects) d none =
    list_goes_back (two_faults key_value_faults sums_faults) (two_said key_value_said sums_said) (two_data value_data sums_data)
    (two_goes_back key_value_faults sums_faults key_value_said sums_said value_data sums_data key_goes_back sums_go_back) d none
