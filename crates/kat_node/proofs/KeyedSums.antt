-- Tallies by key without a fault are those of a map.
use Rattle.std.proofs.Common.{◌≡◌, ◌≢◌, ℤ, false, List, [], ◌∷◌, ◌++◌, map, sym, None, subst}
use Rattle.std.specs.Cmp.{IsTotalOrder}
use Rattle.std.specs.List.{AllByRecursion}
use Rattle.std.specs.Ordering.{on}
use Rattle.kat_num.specs.Orders.{value_order}
use Rattle.kat_num.specs.declared.values.Sort.{Sort}
use Rattle.kat_num.specs.declared.values.Value.{Value}
use Rattle.kat_lattice.specs.Keyed.{IsAscending, IsBefore, by_key}
use Rattle.kat_lattice.specs.Maps.{IsKept, IsMap}
use Rattle.kat_lattice.specs.Tallies.{IsTally, Sums, TalliesKin, tallies_joined, tally_laws}
use Rattle.kat_design.specs.Faults.{here_if, within}
use Rattle.kat_design.specs.Sorted.{EachHas}
use Rattle.kat_design.proofs.Accepted.{none_left, none_right}
use Rattle.kat_json.proofs.Backwards.{here_back, within_back}
use Rattle.kat_node.specs.Possible.{HasSums, is_empty, key_faults, keys_ascend, sum_made, sums_faults, tallies_entry_faults, tallies_faults, tally_entry_made}
use Rattle.kat_node.proofs.Judged.{ascending}
use Rattle.kat_node.proofs.Keys.{tallies_less}
use Rattle.kat_node.proofs.Sums.{elements_none, tally_back}

entry_back : (key : Sort) (e : Value × List (ℤ × ℤ)) → tallies_entry_faults key e ≡ [] → HasSums e
entry_back key e none =
    let f = within 0 (key_faults key e.0) in
    let g = here_if (is_empty e.1) ++ sums_faults e.1 in
    let inner = within_back 1 g (none_right f (within 1 g) none) in
    record { some = here_back (is_empty e.1) (none_left (here_if (is_empty e.1)) (sums_faults e.1) inner); none = none_right (here_if (is_empty e.1)) (sums_faults e.1) inner }

each_back : (key : Sort) (es : List (Value × List (ℤ × ℤ))) → EachHas (λ e. tallies_entry_faults key e ≡ []) es → EachHas HasSums es
each_back key [] each = tt
each_back key (e ∷ es) each = (entry_back key e each.0, each_back key es each.1)

pub entries_back : (key : Sort) (es : List (Value × List (ℤ × ℤ))) → tallies_faults key es ≡ [] → EachHas HasSums es
entries_back key es none = each_back key es (elements_none keys_ascend (λ (e : Value × List (ℤ × ℤ)). e.0) (tallies_entry_faults key) 0 None es none)

-- entries that keep their keys ascend as they did
before_same : {A B : Type 0} (f : A → B) (x : Value × A) (es : List (Value × A)) → IsBefore (on (λ (e : Value × A). e.0) value_order) x es
    → IsBefore (by_key value_order) (x.0, f x.1) (map (λ (e : Value × A). (e.0, f e.1)) es)
before_same f x [] before = tt
before_same f x (e ∷ es) before = (before.0, before_same f x es before.1)

pub ascending_same : {A B : Type 0} (f : A → B) (es : List (Value × A)) → IsAscending (on (λ (e : Value × A). e.0) value_order) es
    → IsAscending (by_key value_order) (map (λ (e : Value × A). (e.0, f e.1)) es)
ascending_same f [] up = tt
ascending_same f (e ∷ es) up = (before_same f e es up.0, ascending_same f es up.1)

some_made : (xs : List (ℤ × ℤ)) → is_empty xs ≡ false → map sum_made xs ≢ []
some_made [] some e = absurd (cc)
some_made (x ∷ xs) some e = absurd (cc)

empty_tally : IsTally []
empty_tally = record { ascending = tt; counted = tt }

kept : (e : Value × List (ℤ × ℤ)) → HasSums e → IsKept TalliesKin tallies_joined [] (map sum_made e.1)
kept e has =
    let is = tally_back e.1 has.none in
    record {
      goes = record { left = empty_tally; right = is };
      own = tally_laws.comm [] (map sum_made e.1) (record { left = empty_tally; right = is });
      differs = some_made e.1 has.some;
    }

kept_each : (es : List (Value × List (ℤ × ℤ))) → EachHas HasSums es → AllByRecursion (λ (e : Value × Sums). IsKept TalliesKin tallies_joined [] e.1) (map tally_entry_made es)
kept_each [] each = tt
kept_each (e ∷ es) each = (kept e each.0, kept_each es each.1)

pub tallies_back : IsTotalOrder value_order → (key : Sort) (es : List (Value × List (ℤ × ℤ))) (start : Sums) (made : List (Value × Sums)) → tallies_faults key es ≡ []
    → start ≡ [] → made ≡ map tally_entry_made es → IsMap value_order TalliesKin tallies_joined (record { start = start; entries = made })
tallies_back total key es start made none starts is =
    let map_is : IsMap value_order TalliesKin tallies_joined (record { start = []; entries = map tally_entry_made es }) = record {
      ascending = ascending_same (λ (xs : List (ℤ × ℤ)). map sum_made xs) es (ascending total keys_ascend (λ (e : Value × List (ℤ × ℤ)). e.0) (tallies_entry_faults key) (tallies_less key) es none);
      kept = kept_each es (entries_back key es none);
    } in
    let first = subst (λ (s : Sums). IsMap value_order TalliesKin tallies_joined (record { start = s; entries = map tally_entry_made es })) (sym starts) map_is in
    subst (λ (ms : List (Value × Sums)). IsMap value_order TalliesKin tallies_joined (record { start = start; entries = ms })) (sym is) first
