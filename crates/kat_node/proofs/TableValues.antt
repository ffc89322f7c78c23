-- Entries of a table without a fault are those of a map.
use Rattle.std.proofs.Common.{◌≡◌, ◌≢◌, Bool, true, false, List, [], ◌∷◌, ◌++◌, map, refl, sym, ap, ◌∙◌, None, subst}
use Rattle.std.specs.Prelude.{◌&&◌, not}
use Rattle.std.proofs.lemmas.Bool.Decides.{Decides-int_eq}
use Rattle.std.proofs.lemmas.Bool.{eq-eqb}
use Rattle.std.specs.Cmp.{IsTotalOrder}
use Rattle.std.specs.List.{AllByRecursion}
use Rattle.kat_num.proofs.NameCodes.{and_parts}
use Rattle.kat_num.specs.Orders.{value_order}
use Rattle.kat_num.specs.declared.values.Sort.{Sort}
use Rattle.kat_num.specs.declared.values.Value.{Value}
use Rattle.kat_num.specs.declared.values.Value.TheVariants as value
use Rattle.kat_lattice.specs.Maps.{IsKept, IsMap}
use Rattle.kat_shape.specs.Flats.{filled_with}
use Rattle.kat_shape.specs.Laws.{shape_of-joined}
use Rattle.kat_shape.specs.Values.{Filled, OneShape, joined, leaves_of, shape_of}
use Rattle.kat_shape.proofs.ByLeaves.{leaves_determine}
use Rattle.kat_shape.proofs.Filling.{filled_shape}
use Rattle.kat_type.proofs.Same.{same-values}
use Rattle.kat_design.specs.Faults.{Path, within}
use Rattle.kat_design.specs.Sorted.{EachHas}
use Rattle.kat_type.specs.Unions.{are_same_values, is_same_value}
use Rattle.kat_design.proofs.Accepted.{none_left, none_right}
use Rattle.kat_json.proofs.Backwards.{here_back, within_back}
use Rattle.kat_node.specs.Possible.{are_none, cell_entry_made, is_own, key_faults, keys_ascend, leaves_faults, own_faults, table_entry_faults, table_faults}
use Rattle.kat_node.proofs.Judged.{ascending}
use Rattle.kat_node.proofs.KeyedSums.{ascending_same}
use Rattle.kat_node.proofs.Keys.{table_less}
use Rattle.kat_node.proofs.Sums.{elements_none}

pub none_is : (xs : List Path) → are_none xs ≡ true → xs ≡ []
none_is [] h = refl
none_is (x ∷ xs) h = absurd (cc)

value_itself : (v : Value) → is_same_value v v ≡ true
value_itself (value.Bool true) = refl
value_itself (value.Bool false) = refl
value_itself (value.Num z) = (Decides-int_eq z z).1 refl
value_itself (value.Name code) = eq-eqb code code refl

pub values_itself : (vs : List Value) → are_same_values vs vs ≡ true
values_itself [] = refl
values_itself (v ∷ vs) = let first = value_itself v in rw first (values_itself vs)

differs_by : (us vs : List Value) → not (are_same_values us vs) ≡ true → us ≢ vs
differs_by us vs h e = let same : are_same_values us vs ≡ true = subst (λ (ws : List Value). are_same_values us ws ≡ true) e (values_itself us) in absurd (cc)

-- a value that is its own and isn't the start is kept
kept_own : (start v : Filled) → OneShape start start → shape_of v ≡ shape_of start → is_own start v ≡ true → IsKept OneShape joined start v
kept_own start v itself shape own =
    let both = and_parts (not (are_same_values (leaves_of v) (leaves_of start))) (are_same_values (leaves_of (joined start v)) (leaves_of v)) own in
    let goes : OneShape start v = record { good = itself.good; same = sym shape } in
    record {
      goes = goes;
      own = leaves_determine (joined start v) v (shape_of-joined start v goes ∙ sym shape) (same-values (leaves_of (joined start v)) (leaves_of v) both.1);
      differs = λ e. differs_by (leaves_of v) (leaves_of start) both.0 (ap leaves_of e);
    }

-- what an entry without a fault keeps
own_by : (fit own : Bool) → (fit && not own) ≡ false → fit ≡ true → own ≡ true
own_by true own h f = not_false own h where
  not_false : (own : Bool) → not own ≡ false → own ≡ true
  not_false true h = refl
  not_false false h = sym h
own_by false own h f = absurd (cc)

none_true : (xs : List Path) → xs ≡ [] → are_none xs ≡ true
none_true xs e = ap are_none e

pub record Kept (start : Filled) (e : Value × List Value) : Type 0 where
  pub leaves : leaves_faults (shape_of start) e.1 ≡ []
  pub own : is_own start (filled_with (shape_of start) e.1) ≡ true

entry_kept : (key : Sort) (start : Filled) (e : Value × List Value) → table_entry_faults key (shape_of start) start e ≡ [] → Kept start e
entry_kept key start e none =
    let shape = shape_of start in
    let f = own_faults shape start e.1 in
    let g = within 0 (key_faults key e.0) in
    let h = within 1 (leaves_faults shape e.1) in
    let leaves = within_back 1 (leaves_faults shape e.1) (none_right (f ++ g) h none) in
    let fit = are_none (leaves_faults shape e.1) in
    let own = is_own start (filled_with shape e.1) in
    record { leaves = leaves; own = own_by fit own (here_back (fit && not own) (none_left f g (none_left (f ++ g) h none))) (none_true (leaves_faults shape e.1) leaves) }

each_kept : (key : Sort) (start : Filled) (es : List (Value × List Value)) → EachHas (λ e. table_entry_faults key (shape_of start) start e ≡ []) es → EachHas (Kept start) es
each_kept key start [] each = tt
each_kept key start (e ∷ es) each = (entry_kept key start e each.0, each_kept key start es each.1)

all_kept : (key : Sort) (start : Filled) (es : List (Value × List Value)) → table_faults key (shape_of start) start es ≡ [] → EachHas (Kept start) es
all_kept key start es none = each_kept key start es (elements_none keys_ascend (λ (e : Value × List Value). e.0) (table_entry_faults key (shape_of start) start) 0 None es none)

kept_values : (start : Filled) (es : List (Value × List Value)) → OneShape start start → EachHas (Kept start) es
    → AllByRecursion (λ (e : Value × Filled). IsKept OneShape joined start e.1) (map (cell_entry_made (shape_of start)) es)
kept_values start [] itself each = tt
kept_values start (e ∷ es) itself each =
    (kept_own start (filled_with (shape_of start) e.1) itself (filled_shape (shape_of start) e.1) each.0.own, kept_values start es itself each.1)

pub table_back : IsTotalOrder value_order → (key : Sort) (start : Filled) (es : List (Value × List Value)) (made : List (Value × Filled)) → OneShape start start
    → table_faults key (shape_of start) start es ≡ [] → made ≡ map (cell_entry_made (shape_of start)) es → IsMap value_order OneShape joined (record { start = start; entries = made })
table_back total key start es made itself none is =
    let map_is : IsMap value_order OneShape joined (record { start = start; entries = map (cell_entry_made (shape_of start)) es }) = record {
      ascending = ascending_same (filled_with (shape_of start)) es (ascending total keys_ascend (λ (e : Value × List Value). e.0) (table_entry_faults key (shape_of start) start) (table_less key (shape_of start) start) es none);
      kept = kept_values start es itself (all_kept key start es none);
    } in
    subst (λ (ms : List (Value × Filled)). IsMap value_order OneShape joined (record { start = start; entries = ms })) (sym is) map_is
