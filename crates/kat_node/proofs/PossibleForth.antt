-- What is said of a part that a state file can have has no fault, and makes the part.
use Rattle.std.proofs.Common.{◌≡◌, ℕ, ◌+◌, ◌^◌, ◌≤◌, ℤ, pos, Bool, true, false, List, [], ◌∷◌, ◌++◌, map, refl, sym, ap, ap₂, ◌∙◌, Option, None, Some, subst, arith}
use Rattle.std.specs.Prelude.{◌≢◌, ◌&&◌, int_le, not}
use Rattle.std.proofs.lemmas.Int.{ints}
use Rattle.std.specs.List.{AllByRecursion}
use Rattle.std.specs.declared.cmp.Ordering.{Ordering}
use Rattle.std.specs.declared.cmp.Ordering.TheVariants.{Less}
use Rattle.std.specs.Ordering.{int_cmp, is_lt, nat_cmp, on}
use Rattle.kat_num.specs.Orders.{value_order}
use Rattle.kat_num.specs.declared.values.Sort.{Sort}
use Rattle.kat_num.specs.declared.values.Sort.TheVariants as sort
use Rattle.kat_num.specs.declared.values.Value.{Value}
use Rattle.kat_num.specs.declared.values.Value.TheVariants as value
use Rattle.kat_lattice.specs.Keyed.{IsAscending, IsBefore, by_key}
use Rattle.kat_lattice.specs.Maps.{IsKept, Table}
use Rattle.kat_lattice.specs.Tallies.{Sums, TalliesKin, tallies_joined}
use Rattle.kat_shape.specs.Flats.{filled_with}
use Rattle.kat_shape.specs.Forms.{CellForm, leaf_kind_of, leaf_kinds_of}
use Rattle.kat_shape.specs.Values.{Filled, OneShape, joined, leaves_of}
use Rattle.kat_shape.proofs.ByLeaves.{leaves_determine}
use Rattle.kat_shape.proofs.Filling.{leaf_kinds_of-shape_of}
use Rattle.kat_design.specs.Designs.{ComponentForm}
use Rattle.kat_design.specs.Designs.ComponentForm.{a_cell, a_table, a_set, a_tally, tallies}
use Rattle.kat_design.specs.Faults.{Path, each_faults, here_if, is_written, within}
use Rattle.kat_design.specs.Sorted.{EachHas}
use Rattle.kat_design.specs.declared.states.Part.{Part}
use Rattle.kat_design.specs.declared.states.Part.TheVariants as part
use Rattle.kat_type.specs.Unions.{are_same_values}
use Rattle.kat_type.proofs.Same.{same-values}
use Rattle.kat_replica.proofs.Filled.{is_filled}
use Rattle.kat_node.specs.Nodes.{AreSums, IsCell, IsEntry, IsKey, IsPart, IsSum}
use Rattle.kat_node.specs.Possible.{are_none, cell_entry_made, element_faults, follows, has_key_sort, is_between, is_empty, is_own, key_faults, keys_ascend, leaves_faults, ordered_faults, own_faults, part_faults, part_made, range_faults, replicas_ascend, set_faults, sum_entry_faults, sum_made, sums_faults, table_entry_faults, tallies_entry_faults, tally_entry_made, with_last}
use Rattle.kat_node.proofs.Each.{each_by, each_made}
use Rattle.kat_node.proofs.Empty.{no_both, no_here, no_within}
use Rattle.kat_node.proofs.Judged.{less_back}
use Rattle.kat_node.proofs.Keys.{keys_right}
use Rattle.kat_node.proofs.KeyedSums.{ascending_same}
use Rattle.kat_node.proofs.Leaves.{leaves_right}
use Rattle.kat_node.proofs.StatedForth.{entries_stated, key_written, part_stated, sum_stated, sums_stated}
use Rattle.kat_node.proofs.Sums.{less_alike}
use Rattle.kat_node.proofs.TableValues.{values_itself}
use Rattle.kat_node.proofs.Values.{and_both, value_written}

-- numbers in a range
pub range_right : (low high n : ℕ) → low ≤ n → n ≤ high → range_faults low high (pos n) ≡ []
range_right low high n least most =
    let first : int_le (pos low) (pos n) ≡ true = grind (arith, ints, least) in
    let second : int_le (pos n) (pos high) ≡ true = grind (arith, ints, most) in
    no_here (is_between (pos n) low high) (and_both (int_le (pos low) (pos n)) (int_le (pos n) (pos high)) first second)

-- elements that ascend, each without a fault
element_right : {K E : Type 0} (ascend : K → K → Bool) (key : E → K) (f : E → List Path) (last : Option K) (x : E) → follows ascend last (key x) ≡ true → f x ≡ [] → element_faults ascend key f (last, x) ≡ []
element_right ascend key f last x behind none = no_both (here_if (not (follows ascend last (key x)))) (f x) (no_here (follows ascend last (key x)) behind) none

chain_right : {K E : Type 0} (cmp : K → K → Ordering) (ascend : K → K → Bool) (key : E → K) (f : E → List Path) → ((a b : K) → cmp a b ≡ Less → ascend a b ≡ true) → (i : ℕ) (last : E) (xs : List E)
    → IsBefore (on key cmp) last xs → IsAscending (on key cmp) xs → EachHas (λ x. f x ≡ []) xs
    → each_faults (element_faults ascend key f) i (with_last key (Some (key last)) xs) ≡ []
chain_right cmp ascend key f right i last [] before up each = refl
chain_right cmp ascend key f right i last (x ∷ xs) before up each =
    no_both (within i (element_faults ascend key f (Some (key last), x))) (each_faults (element_faults ascend key f) (i + 1) (with_last key (Some (key x)) xs))
    (no_within i (element_faults ascend key f (Some (key last), x)) (element_right ascend key f (Some (key last)) x (right (key last) (key x) before.0) each.0))
    (chain_right cmp ascend key f right (i + 1) x xs up.0 up.1 each.1)

ordered_right : {K E : Type 0} (cmp : K → K → Ordering) (ascend : K → K → Bool) (key : E → K) (f : E → List Path) → ((a b : K) → cmp a b ≡ Less → ascend a b ≡ true) → (xs : List E)
    → IsAscending (on key cmp) xs → EachHas (λ x. f x ≡ []) xs → ordered_faults ascend key f xs ≡ []
ordered_right cmp ascend key f right [] up each = refl
ordered_right cmp ascend key f right (x ∷ xs) up each =
    no_both (within 0 (element_faults ascend key f (None, x))) (each_faults (element_faults ascend key f) 1 (with_last key (Some (key x)) xs))
    (no_within 0 (element_faults ascend key f (None, x)) (element_right ascend key f None x refl each.0)) (chain_right cmp ascend key f right 1 x xs up.0 up.1 each.1)

-- keys
has_key : (s : Sort) (v : Value) → IsKey s v → has_key_sort s v ≡ true
has_key sort.Int (value.Num z) is = refl
has_key sort.Nat (value.Num z) is = let least = is.0 in grind (arith, ints, least)
has_key sort.Name (value.Name code) is = refl
has_key sort.Bool (value.Bool b) is = absurd is
has_key sort.Bool (value.Num z) is = absurd is
has_key sort.Bool (value.Name code) is = absurd is
has_key sort.Int (value.Bool b) is = absurd is
has_key sort.Int (value.Name code) is = absurd is
has_key sort.Nat (value.Bool b) is = absurd is
has_key sort.Nat (value.Name code) is = absurd is
has_key sort.Name (value.Bool b) is = absurd is
has_key sort.Name (value.Num z) is = absurd is

key_right : (s : Sort) (v : Value) → IsKey s v → key_faults s v ≡ []
key_right s v is = no_here (has_key_sort s v && is_written v) (and_both (has_key_sort s v) (is_written v) (has_key s v is) (value_written v (key_written s v is)))

set_right : (s : Sort) (keys : List Value) → IsAscending value_order keys → EachHas (IsKey s) keys → set_faults s keys ≡ []
set_right s keys up each = ordered_right value_order keys_ascend (λ v. v) (key_faults s) keys_right keys up (each_by (IsKey s) (λ v. key_faults s v ≡ []) (key_right s) keys each)

-- sums
sum_right : (sum : ℕ × ℕ) → IsSum sum → sum_entry_faults (sum_stated sum) ≡ []
sum_right sum is =
    no_both (within 0 (range_faults 1 32 (pos sum.0))) (within 1 (range_faults 1 (10 ^ 18) (pos sum.1)))
    (no_within 0 (range_faults 1 32 (pos sum.0)) (range_right 1 32 sum.0 is.least_replica is.most_replica))
    (no_within 1 (range_faults 1 (10 ^ 18) (pos sum.1)) (range_right 1 (10 ^ 18) sum.1 is.least is.most))

less_forth : (m n : ℕ) → nat_cmp m n ≡ Less → int_cmp (pos m) (pos n) ≡ Less
less_forth m n h = less_back (int_cmp (pos m) (pos n)) (less_alike m n ∙ ap is_lt h)

sums_before : (x : ℕ × ℕ) (xs : Sums) → IsBefore (by_key nat_cmp) x xs → IsBefore (on (λ (sum : ℤ × ℤ). sum.0) int_cmp) (sum_stated x) (sums_stated xs)
sums_before x [] before = tt
sums_before x (y ∷ ys) before = (less_forth x.0 y.0 before.0, sums_before x ys before.1)

sums_up : (xs : Sums) → IsAscending (by_key nat_cmp) xs → IsAscending (on (λ (sum : ℤ × ℤ). sum.0) int_cmp) (sums_stated xs)
sums_up [] up = tt
sums_up (x ∷ xs) up = (sums_before x xs up.0, sums_up xs up.1)

sums_right : (sums : Sums) → AreSums sums → sums_faults (sums_stated sums) ≡ []
sums_right sums is =
    ordered_right int_cmp replicas_ascend (λ (sum : ℤ × ℤ). sum.0) sum_entry_faults (λ a b h. ap is_lt h) (sums_stated sums) (sums_up sums is.ascending)
    (each_made IsSum (λ sum. sum_entry_faults sum ≡ []) sum_stated sum_right sums is.each)

sums_again : (sums : Sums) → map sum_made (sums_stated sums) ≡ sums
sums_again [] = refl
sums_again (sum ∷ sums) = ap (λ rest. sum ∷ rest) (sums_again sums)

-- cells
cell_kinds : (shape : CellForm) (cell : Filled) → IsCell shape cell → map leaf_kind_of (leaves_of cell) ≡ leaf_kinds_of shape
cell_kinds shape cell is = leaf_kinds_of-shape_of cell ∙ ap leaf_kinds_of is.shaped

cell_right : (shape : CellForm) (cell : Filled) → IsCell shape cell → leaves_faults shape (leaves_of cell) ≡ []
cell_right shape cell is = leaves_right shape (leaves_of cell) (cell_kinds shape cell is) is.written

cell_again : (shape : CellForm) (cell : Filled) → IsCell shape cell → filled_with shape (leaves_of cell) ≡ cell
cell_again shape cell is = sym (is_filled shape (leaves_of cell) cell (cell_kinds shape cell is) is.shaped refl)

-- entries of keys
entries_again : {V A : Type 0} (made : A → V) (f : V → A) (P : Value × V → Type 0) → ((e : Value × V) → P e → made (f e.1) ≡ e.1) → (es : List (Value × V)) → EachHas P es
    → map (λ (e : Value × A). (e.0, made e.1)) (entries_stated f es) ≡ es
entries_again made f P again [] each = refl
entries_again {V} made f P again (e ∷ es) each = ap₂ (λ (v : V) rest. (e.0, v) ∷ rest) (again e each.0) (entries_again made f P again es each.1)

-- tables: a value that is kept is its own
not_same : (us vs : List Value) (b : Bool) → are_same_values us vs ≡ b → us ≢ vs → not b ≡ true
not_same us vs true is apart = absurd (apart (same-values us vs is))
not_same us vs false is apart = refl

own_right : (start v : Filled) → IsKept OneShape joined start v → is_own start v ≡ true
own_right start v kept =
    and_both (not (are_same_values (leaves_of v) (leaves_of start))) (are_same_values (leaves_of (joined start v)) (leaves_of v))
    (not_same (leaves_of v) (leaves_of start) (are_same_values (leaves_of v) (leaves_of start)) refl (λ same. kept.differs (leaves_determine v start (sym kept.goes.same) same)))
    (ap (λ w. are_same_values (leaves_of w) (leaves_of v)) kept.own ∙ values_itself (leaves_of v))

abbrev IsTableEntry : Sort → CellForm → Filled → Value × Filled → Type 0
IsTableEntry key shape start e = IsEntry key (IsCell shape) e × IsKept OneShape joined start e.1

table_entry_right : (key : Sort) (shape : CellForm) (start : Filled) (e : Value × Filled) → IsTableEntry key shape start e → table_entry_faults key shape start (e.0, leaves_of e.1) ≡ []
table_entry_right key shape start e is =
    let leaves = leaves_of e.1 in
    let own : is_own start (filled_with shape leaves) ≡ true = ap (λ v. is_own start v) (cell_again shape e.1 is.0.1) ∙ own_right start e.1 is.1 in
    let fit = are_none (leaves_faults shape leaves) in
    let whole : own_faults shape start leaves ≡ [] = no_own fit (is_own start (filled_with shape leaves)) own in
    no_both (own_faults shape start leaves ++ within 0 (key_faults key e.0)) (within 1 (leaves_faults shape leaves))
    (no_both (own_faults shape start leaves) (within 0 (key_faults key e.0)) whole (no_within 0 (key_faults key e.0) (key_right key e.0 is.0.0)))
    (no_within 1 (leaves_faults shape leaves) (cell_right shape e.1 is.0.1)) where
      no_own : (fit own : Bool) → own ≡ true → here_if (fit && not own) ≡ []
      no_own true own is = no_here own is
      no_own false own is = refl

table_entries : (key : Sort) (shape : CellForm) (start : Filled) (es : List (Value × Filled)) → EachHas (IsEntry key (IsCell shape)) es
    → AllByRecursion (λ (e : Value × Filled). IsKept OneShape joined start e.1) es → EachHas (IsTableEntry key shape start) es
table_entries key shape start [] each kept = tt
table_entries key shape start (e ∷ es) each kept = ((each.0, kept.0), table_entries key shape start es each.1 kept.1)

-- tallies
some_sum : (sums : Sums) → sums ≢ [] → is_empty (sums_stated sums) ≡ false
some_sum [] some = absurd (some refl)
some_sum (sum ∷ sums) some = refl

abbrev IsTallyEntry : Sort → Value × Sums → Type 0
IsTallyEntry key e = IsEntry key AreSums e × (e.1 ≢ [])

tally_entry_right : (key : Sort) (e : Value × Sums) → IsTallyEntry key e → tallies_entry_faults key (e.0, sums_stated e.1) ≡ []
tally_entry_right key e is =
    let sums = sums_stated e.1 in
    let inner = here_if (is_empty sums) ++ sums_faults sums in
    no_both (within 0 (key_faults key e.0)) (within 1 inner) (no_within 0 (key_faults key e.0) (key_right key e.0 is.0.0))
    (no_within 1 inner (no_both (here_if (is_empty sums)) (sums_faults sums) (ap here_if (some_sum e.1 is.1)) (sums_right e.1 is.0.1)))

tally_entries : (key : Sort) (es : List (Value × Sums)) → EachHas (IsEntry key AreSums) es → AllByRecursion (λ (e : Value × Sums). IsKept TalliesKin tallies_joined [] e.1) es → EachHas (IsTallyEntry key) es
tally_entries key [] each kept = tt
tally_entries key (e ∷ es) each kept = ((each.0, kept.0.differs), tally_entries key es each.1 kept.1)

-- a part
pub record PartForth (component : ComponentForm) (p : Part) : Type 0 where
  pub none : part_faults component (part_stated p) ≡ []
  pub again : part_made component (part_stated p) ≡ p

table_same : {V : Type 0} (s : V) (es : List (Value × V)) (table : Table Value V) → table.start ≡ s → es ≡ table.entries → ◌≡◌ {A = Table Value V} (record { start = s; entries = es }) table
table_same s es table start entries = λ i. record { start = sym start i; entries = entries i }

pub part_forth : (component : ComponentForm) (p : Part) → IsPart component p → PartForth component p
part_forth (a_cell shape starts effects) (part.Cell cell) is = record { none = cell_right shape cell is; again = ap part.Cell (cell_again shape cell is) }
part_forth (a_table key shape starts effects) (part.Table table) is =
    let start = filled_with shape starts in
    let kept = subst (λ s. AllByRecursion (λ (e : Value × Filled). IsKept OneShape joined s e.1) table.entries) is.start_is is.map_is.kept in
    let each = table_entries key shape start table.entries is.each kept in
    record {
      none = ordered_right value_order keys_ascend (λ (e : Value × List Value). e.0) (table_entry_faults key shape start) keys_right (entries_stated leaves_of table.entries) (ascending_same leaves_of table.entries is.map_is.ascending)
          (each_made (IsTableEntry key shape start) (λ e. table_entry_faults key shape start e ≡ []) (λ (e : Value × Filled). (e.0, leaves_of e.1)) (table_entry_right key shape start) table.entries each);
      again = ap part.Table (table_same start (map (cell_entry_made shape) (entries_stated leaves_of table.entries)) table is.start_is
          (entries_again (filled_with shape) leaves_of (IsTableEntry key shape start) (λ e h. cell_again shape e.1 h.0.1) table.entries each));
    }
part_forth (a_set key effects) (part.Set keys) is = record { none = set_right key keys is.ascending is.each; again = refl }
part_forth (a_tally effects) (part.Tally sums) is = record { none = sums_right sums is; again = ap part.Tally (sums_again sums) }
part_forth (tallies key effects) (part.Tallies table) is =
    let kept = subst (λ s. AllByRecursion (λ (e : Value × Sums). IsKept TalliesKin tallies_joined s e.1) table.entries) is.start_is is.map_is.kept in
    let each = tally_entries key table.entries is.each kept in
    record {
      none = ordered_right value_order keys_ascend (λ (e : Value × List (ℤ × ℤ)). e.0) (tallies_entry_faults key) keys_right (entries_stated sums_stated table.entries) (ascending_same sums_stated table.entries is.map_is.ascending)
          (each_made (IsTallyEntry key) (λ e. tallies_entry_faults key e ≡ []) (λ (e : Value × Sums). (e.0, sums_stated e.1)) (tally_entry_right key) table.entries each);
      again = ap part.Tallies (table_same [] (map tally_entry_made (entries_stated sums_stated table.entries)) table is.start_is
          (entries_again (λ (xs : List (ℤ × ℤ)). map sum_made xs) sums_stated (IsTallyEntry key) (λ e h. sums_again e.1) table.entries each));
    }
part_forth (a_cell shape starts effects) _ is = absurd is
part_forth (a_table key shape starts effects) _ is = absurd is
part_forth (a_set key effects) _ is = absurd is
part_forth (a_tally effects) _ is = absurd is
part_forth (tallies key effects) _ is = absurd is
