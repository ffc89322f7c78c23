-- What is said of a component and has no fault is a part that a state file can have, and is printed as it was said.
use Rattle.std.proofs.Common.{◌≡◌, ℕ, ◌^◌, ◌≤◌, ℤ, pos, negsuc, true, List, [], ◌∷◌, ◌++◌, map, refl, sym, ap, ap₂, ◌∙◌, None, subst, arith}
use Rattle.std.specs.Prelude.{◌≤ℤ◌}
use Rattle.std.proofs.lemmas.Int.{ints}
use Rattle.std.specs.Cmp.{IsTotalOrder}
use Rattle.kat_num.specs.Orders.{value_order}
use Rattle.kat_num.specs.declared.values.Sort.{Sort}
use Rattle.kat_num.specs.declared.values.Sort.TheVariants as sort
use Rattle.kat_num.specs.declared.values.Value.{Value}
use Rattle.kat_num.specs.declared.values.Value.TheVariants as value
use Rattle.kat_lattice.specs.Maps.{IsMap}
use Rattle.kat_shape.specs.Flats.{filled_with}
use Rattle.kat_shape.specs.Forms.{CellForm, IsGoodForm}
use Rattle.kat_shape.specs.Values.{Filled, OneShape, joined, shape_of}
use Rattle.kat_shape.proofs.Filling.{filled_leaves, filled_shape}
use Rattle.kat_design.specs.Denotations.{natural}
use Rattle.kat_design.specs.Designs.{ComponentForm}
use Rattle.kat_design.specs.Designs.ComponentForm.{a_cell, a_table, a_set, a_tally, tallies}
use Rattle.kat_design.specs.Faults.{here_if, within}
use Rattle.kat_design.specs.Sorted.{EachHas, IsWritten}
use Rattle.kat_design.proofs.Accepted.{none_right}
use Rattle.kat_replica.specs.Starting.{HasStarts}
use Rattle.serde_json.specs.Data.{Data}
use Rattle.kat_json.specs.Lists.{list}
use Rattle.kat_json.specs.Printed.{integer_data, natural as natural_data, value_data}
use Rattle.kat_json.proofs.Backwards.{within_back}
use Rattle.kat_node.specs.Nodes.{AreSums, IsCell, IsEntry, IsKey, IsPart, IsSet, IsSum}
use Rattle.kat_node.specs.Possible.{IsSaidSum, cell_entry_made, has_key_sort, key_faults, keys_ascend, leaves_faults, own_faults, part_faults, part_made, set_faults, sum_made, sums_faults, table_entry_faults, table_faults, tallies_entry_faults, tallies_faults, tally_entry_made}
use Rattle.kat_node.specs.StateData.{cell_data, entry_data, part_data, sum_data, tally_data}
use Rattle.kat_node.specs.declared.stated.Stated.{Stated}
use Rattle.kat_node.specs.declared.stated.Stated.TheVariants as stated
use Rattle.kat_node.proofs.Judged.{ascending}
use Rattle.kat_node.proofs.Keys.{key_parts, keys_less, table_key, tallies_key}
use Rattle.kat_node.proofs.KeyedSums.{tallies_back}
use Rattle.kat_node.proofs.Leaves.{leaves_fit, leaves_written}
use Rattle.kat_node.proofs.StatedBack.{said_sum_data, stated_data, sums_data, two_data, values_data}
use Rattle.kat_node.proofs.Sums.{elements_none, le_back, sums_back, tally_back}
use Rattle.kat_node.proofs.TableValues.{table_back}
use Rattle.kat_node.proofs.Values.{written_value}
use Rattle.kat_node.specs.Possible.{is_empty}

-- keys
key_by : (s : Sort) (v : Value) → has_key_sort s v ≡ true → IsWritten v → IsKey s v
key_by sort.Bool (value.Bool b) has is = absurd (cc)
key_by sort.Bool (value.Num z) has is = absurd (cc)
key_by sort.Bool (value.Name code) has is = absurd (cc)
key_by sort.Int (value.Bool b) has is = absurd (cc)
key_by sort.Int (value.Num z) has is = is
key_by sort.Int (value.Name code) has is = absurd (cc)
key_by sort.Nat (value.Bool b) has is = absurd (cc)
key_by sort.Nat (value.Num z) has is = (le_back (pos 0) z has, is)
key_by sort.Nat (value.Name code) has is = absurd (cc)
key_by sort.Name (value.Bool b) has is = absurd (cc)
key_by sort.Name (value.Num z) has is = absurd (cc)
key_by sort.Name (value.Name code) has is = is

key_back : (s : Sort) (v : Value) → key_faults s v ≡ [] → IsKey s v
key_back s v none =
    let both = key_parts s v none in
    key_by s v both.0 (written_value v both.1)

each_key : (s : Sort) (vs : List Value) → EachHas (λ v. key_faults s v ≡ []) vs → EachHas (IsKey s) vs
each_key s [] each = tt
each_key s (v ∷ vs) each = (key_back s v each.0, each_key s vs each.1)

set_back : IsTotalOrder value_order → (s : Sort) (vs : List Value) → set_faults s vs ≡ [] → IsSet s vs
set_back total s vs none = record {
  ascending = ascending total keys_ascend (λ (v : Value). v) (key_faults s) (keys_less s) vs none;
  each = each_key s vs (elements_none keys_ascend (λ (v : Value). v) (key_faults s) 0 None vs none);
}

-- sums
pub natural_between : (low high : ℕ) (z : ℤ) → pos low ≤ℤ z → z ≤ℤ pos high → (low ≤ natural z) × (natural z ≤ high)
natural_between low high (pos n) least most = (grind (arith, ints, least), grind (arith, ints, most))
natural_between low high (negsuc n) least most = absurd (omega (arith, ints, least))

pub natural_printed : (low : ℕ) (z : ℤ) → pos low ≤ℤ z → natural_data (natural z) ≡ integer_data z
natural_printed low (pos n) least = refl
natural_printed low (negsuc n) least = absurd (omega (arith, ints, least))

sum_back : (sum : ℤ × ℤ) → IsSaidSum sum → IsSum (sum_made sum)
sum_back sum is =
    let replica = natural_between 1 32 sum.0 is.least_replica is.most_replica in
    let amount = natural_between 1 (10 ^ 18) sum.1 is.least is.most in
    record { least_replica = replica.0; most_replica = replica.1; least = amount.0; most = amount.1 }

each_sum : (sums : List (ℤ × ℤ)) → EachHas IsSaidSum sums → EachHas IsSum (map sum_made sums)
each_sum [] each = tt
each_sum (sum ∷ sums) each = (sum_back sum each.0, each_sum sums each.1)

tally_is : (sums : List (ℤ × ℤ)) → sums_faults sums ≡ [] → AreSums (map sum_made sums)
tally_is sums none = record { ascending = (tally_back sums none).ascending; each = each_sum sums (sums_back sums none) }

sum_printed : (sum : ℤ × ℤ) → IsSaidSum sum → sum_data (sum_made sum) ≡ said_sum_data sum
sum_printed sum is = ap₂ (λ (d e : Data). list (d ∷ e ∷ [])) (natural_printed 1 sum.0 is.least_replica) (natural_printed 1 sum.1 is.least)

sums_printed : (sums : List (ℤ × ℤ)) → EachHas IsSaidSum sums → map sum_data (map sum_made sums) ≡ map said_sum_data sums
sums_printed [] each = refl
sums_printed (sum ∷ sums) each = ap₂ (λ d ds. d ∷ ds) (sum_printed sum each.0) (sums_printed sums each.1)

tally_printed : (sums : List (ℤ × ℤ)) → sums_faults sums ≡ [] → tally_data (map sum_made sums) ≡ sums_data sums
tally_printed sums none = ap list (sums_printed sums (sums_back sums none))

-- cells
cell_printed : (shape : CellForm) (vs : List Value) → leaves_faults shape vs ≡ [] → cell_data (filled_with shape vs) ≡ values_data vs
cell_printed shape vs none = ap values_data (filled_leaves shape vs (leaves_fit shape vs none))

cell_back : (shape : CellForm) (vs : List Value) → leaves_faults shape vs ≡ [] → IsCell shape (filled_with shape vs)
cell_back shape vs none = record {
  shaped = filled_shape shape vs;
  written = subst (λ (ws : List Value). EachHas IsWritten ws) (sym (filled_leaves shape vs (leaves_fit shape vs none))) (leaves_written shape vs none);
}

-- entries, each by its faults
record EntryBack {A V : Type 0} (key : Sort) (Is : V → Type 0) (printed : V → Data) (shown : A → Data) (made : A → V) (e : Value × A) : Type 0 where
  is : IsEntry key Is (e.0, made e.1)
  same : entry_data printed (e.0, made e.1) ≡ two_data value_data shown e

entry_back : {A V : Type 0} (key : Sort) (Is : V → Type 0) (printed : V → Data) (shown : A → Data) (made : A → V) (e : Value × A) → key_faults key e.0 ≡ [] → Is (made e.1) → printed (made e.1) ≡ shown e.1
    → EntryBack key Is printed shown made e
entry_back key Is printed shown made e none is same = record {
  is = (key_back key e.0 none, is);
  same = ap (λ (d : Data). list (value_data e.0 ∷ d ∷ [])) same;
}

each_is : {A V : Type 0} (key : Sort) (Is : V → Type 0) (printed : V → Data) (shown : A → Data) (made : A → V) (es : List (Value × A)) → EachHas (EntryBack key Is printed shown made) es
    → EachHas (IsEntry key Is) (map (λ (e : Value × A). (e.0, made e.1)) es)
each_is key Is printed shown made [] each = tt
each_is key Is printed shown made (e ∷ es) each = (each.0.is, each_is key Is printed shown made es each.1)

each_printed : {A V : Type 0} (key : Sort) (Is : V → Type 0) (printed : V → Data) (shown : A → Data) (made : A → V) (es : List (Value × A)) → EachHas (EntryBack key Is printed shown made) es
    → map (entry_data printed) (map (λ (e : Value × A). (e.0, made e.1)) es) ≡ map (two_data value_data shown) es
each_printed key Is printed shown made [] each = refl
each_printed key Is printed shown made (e ∷ es) each = ap₂ (λ d ds. d ∷ ds) each.0.same (each_printed key Is printed shown made es each.1)

-- tables
cell_entry_back : (key : Sort) (shape : CellForm) (start : Filled) (e : Value × List Value) → table_entry_faults key shape start e ≡ [] → EntryBack key (IsCell shape) cell_data values_data (filled_with shape) e
cell_entry_back key shape start e none =
    let f = own_faults shape start e.1 in
    let g = within 0 (key_faults key e.0) in
    let h = within 1 (leaves_faults shape e.1) in
    let leaves = within_back 1 (leaves_faults shape e.1) (none_right (f ++ g) h none) in
    entry_back key (IsCell shape) cell_data values_data (filled_with shape) e (table_key key shape start e none)
    (cell_back shape e.1 leaves) (cell_printed shape e.1 leaves)

cell_entries_back : (key : Sort) (shape : CellForm) (start : Filled) (es : List (Value × List Value)) → EachHas (λ e. table_entry_faults key shape start e ≡ []) es
    → EachHas (EntryBack key (IsCell shape) cell_data values_data (filled_with shape)) es
cell_entries_back key shape start [] each = tt
cell_entries_back key shape start (e ∷ es) each = (cell_entry_back key shape start e each.0, cell_entries_back key shape start es each.1)

all_cells : (key : Sort) (shape : CellForm) (start : Filled) (es : List (Value × List Value)) → table_faults key shape start es ≡ []
    → EachHas (EntryBack key (IsCell shape) cell_data values_data (filled_with shape)) es
all_cells key shape start es none =
    cell_entries_back key shape start es (elements_none keys_ascend (λ (e : Value × List Value). e.0) (table_entry_faults key shape start) 0 None es none)

table_map : IsTotalOrder value_order → (key : Sort) (shape : CellForm) (start : Filled) (es : List (Value × List Value)) → shape_of start ≡ shape → OneShape start start
    → table_faults key shape start es ≡ [] → IsMap value_order OneShape joined (record { start = start; entries = map (cell_entry_made shape) es })
table_map total key shape start es is itself none =
    table_back total key start es (map (cell_entry_made shape) es) itself (ap (λ (f : CellForm). table_faults key f start es) is ∙ none)
    (ap (λ (f : CellForm). map (cell_entry_made f) es) (sym is))

one_shape : (shape : CellForm) (vs : List Value) → IsGoodForm shape → OneShape (filled_with shape vs) (filled_with shape vs)
one_shape shape vs good = record { good = subst IsGoodForm (sym (filled_shape shape vs)) good; same = refl }

-- tallies by key
tally_entry_back : (key : Sort) (e : Value × List (ℤ × ℤ)) → tallies_entry_faults key e ≡ [] → EntryBack key AreSums tally_data sums_data (λ (sums : List (ℤ × ℤ)). map sum_made sums) e
tally_entry_back key e none =
    let f = within 0 (key_faults key e.0) in
    let g = here_if (is_empty e.1) ++ sums_faults e.1 in
    let sums = none_right (here_if (is_empty e.1)) (sums_faults e.1) (within_back 1 g (none_right f (within 1 g) none)) in
    entry_back key AreSums tally_data sums_data (λ (sums : List (ℤ × ℤ)). map sum_made sums) e (tallies_key key e none) (tally_is e.1 sums) (tally_printed e.1 sums)

tally_entries_back : (key : Sort) (es : List (Value × List (ℤ × ℤ))) → EachHas (λ e. tallies_entry_faults key e ≡ []) es
    → EachHas (EntryBack key AreSums tally_data sums_data (λ (sums : List (ℤ × ℤ)). map sum_made sums)) es
tally_entries_back key [] each = tt
tally_entries_back key (e ∷ es) each = (tally_entry_back key e each.0, tally_entries_back key es each.1)

all_tallies : (key : Sort) (es : List (Value × List (ℤ × ℤ))) → tallies_faults key es ≡ []
    → EachHas (EntryBack key AreSums tally_data sums_data (λ (sums : List (ℤ × ℤ)). map sum_made sums)) es
all_tallies key es none = tally_entries_back key es (elements_none keys_ascend (λ (e : Value × List (ℤ × ℤ)). e.0) (tallies_entry_faults key) 0 None es none)

-- a part
pub record PartBack (component : ComponentForm) (s : Stated) : Type 0 where
  pub is : IsPart component (part_made component s)
  pub printed : part_data (part_made component s) ≡ stated_data s

pub part_back : IsTotalOrder value_order → (component : ComponentForm) (s : Stated) → HasStarts component → part_faults component s ≡ [] → PartBack component s
part_back total (a_cell shape starts effects) (stated.Cell leaves) has none = record { is = cell_back shape leaves none; printed = cell_printed shape leaves none }
part_back total (a_table key shape starts effects) (stated.Table entries) has none =
    let start = filled_with shape starts in
    let each = all_cells key shape start entries none in
    record {
      is = record {
        start_is = refl;
        map_is = table_map total key shape start entries (filled_shape shape starts) (one_shape shape starts has.0) none;
        each = each_is key (IsCell shape) cell_data values_data (filled_with shape) entries each;
      };
      printed = ap list (each_printed key (IsCell shape) cell_data values_data (filled_with shape) entries each);
    }
part_back total (a_set key effects) (stated.Set keys) has none = record { is = set_back total key keys none; printed = refl }
part_back total (a_tally effects) (stated.Tally sums) has none = record { is = tally_is sums none; printed = tally_printed sums none }
part_back total (tallies key effects) (stated.Tallies entries) has none =
    let each = all_tallies key entries none in
    record {
      is = record {
        start_is = refl;
        map_is = tallies_back total key entries [] (map tally_entry_made entries) none refl refl;
        each = each_is key AreSums tally_data sums_data (λ (sums : List (ℤ × ℤ)). map sum_made sums) entries each;
      };
      printed = ap list (each_printed key AreSums tally_data sums_data (λ (sums : List (ℤ × ℤ)). map sum_made sums) entries each);
    }
part_back total (a_cell shape starts effects) _ has none = absurd (cc)
part_back total (a_table key shape starts effects) _ has none = absurd (cc)
part_back total (a_set key effects) _ has none = absurd (cc)
part_back total (a_tally effects) _ has none = absurd (cc)
part_back total (tallies key effects) _ has none = absurd (cc)
