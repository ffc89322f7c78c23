-- Tallies by key mean what they should.
use Rattle.std.proofs.Common.{◌≡◌, ◌≢◌, ℕ, ◌+◌, ◌<◌, max, Bool, true, false, List, [], ◌∷◌, refl, sym, ◌∙◌, ap, subst, cond, arith, Option, Some, None}
use Rattle.std.specs.Prelude.{◌==◌}
use Rattle.std.specs.Cmp.{IsTotalOrder}
use Rattle.std.specs.declared.cmp.Ordering.{Ordering}
use Rattle.std.specs.declared.cmp.Ordering.TheVariants.{Less, Equal, Greater}
use Rattle.std.specs.Ordering.{is_eq}
use Rattle.kat_lattice.specs.Keyed.{value_or}
use Rattle.std.proofs.lemmas.Bool.{eqb-true, eq-eqb}
use Rattle.kat_lattice.specs.Sets.{TellsApart}
use Rattle.kat_lattice.specs.Maps.{IsMap, MapsKin, Table, at_key, maps_joined}
use Rattle.kat_lattice.specs.MapLaws.{at_key-joined, map_joined}
use Rattle.kat_lattice.specs.Tallies.{IsTally, Sums, TalliesKin, sum_of, tallies_joined, tally_joined, tally_laws}
use Rattle.kat_lattice.proofs.Readings.{same_sums_same_tally, same_values_same_map, takes_greater_sums}
use Rattle.kat_type.specs.declared.done.Done.{Done}
use Rattle.kat_design.specs.Meanings.{Means}
use Rattle.kat_design.specs.KeyedTallies.{bumped_at, keyed_tallies, single, table_of, weight_at}
use Rattle.kat_design.specs.Meanings.{tallied}
use Rattle.kat_design.specs.Tallied.{bumped, tally_of}
use Rattle.kat_design.proofs.KeyedMean.{keyed_mean}
use Rattle.kat_design.proofs.Tallies.{bumped_is, empty_is, not_zero, sum_bumped, tallies_mean}

greater_one : (a b : ℕ) → max a (b + a) ≡ b + a
greater_one a b = omega arith

-- a tally is at or below the one with a weight more
joins_bumped : (sums : Sums) (replica w : ℕ) → IsTally sums → tallies_joined sums (bumped sums replica w) ≡ bumped sums replica w
joins_bumped sums replica w h =
    let more = bumped sums replica w in
    let is = bumped_is sums replica w h in
    same_sums_same_tally (tallies_joined sums more) more (record { left = tally_joined sums more h is; right = is })
    (λ key. takes_greater_sums sums more (record { left = h; right = is }) key
    ∙ ap (λ s. max (sum_of sums key) s) (sum_bumped sums replica w key h)
    ∙ greater_one (sum_of sums key) (cond (replica == key) w 0)
    ∙ sym (sum_bumped sums replica w key h))

joins_empty : (sums : Sums) → IsTally sums → tallies_joined sums [] ≡ sums
joins_empty sums h = refl

empty_joins : (sums : Sums) → IsTally sums → tallies_joined [] sums ≡ sums
empty_joins sums h = tally_laws.comm [] sums (record { left = empty_is; right = h })

bumped_zero : (sums : Sums) (replica w : ℕ) → w ≡ 0 → sums ≡ bumped sums replica w
bumped_zero sums replica w e = subst (λ n. sums ≡ bumped sums replica n) (sym e) refl

no_sum : (w s : ℕ) → 0 < w → 0 ≡ w + s → ⊥
no_sum w s l e = omega arith

above_zero : (w : ℕ) → (w == 0) ≡ false → 0 < w
above_zero w e = let l : 0 < 0 + w = not_zero w 0 e in omega arith

no_weight : (w s : ℕ) → (w == 0) ≡ false → 0 ≡ w + s → ⊥
no_weight w s e f = no_sum w s (above_zero w e) f

pub not_empty : (sums : Sums) (replica w : ℕ) → IsTally sums → (w == 0) ≡ false → bumped sums replica w ≢ []
not_empty sums replica w h e none =
    let at : sum_of (bumped sums replica w) replica ≡ cond (replica == replica) w 0 + sum_of sums replica = sum_bumped sums replica w replica h in
    let here : cond (replica == replica) w 0 ≡ w = ap (λ b. cond b w 0) (eq-eqb replica replica refl) in
    let zero_there : sum_of (bumped sums replica w) replica ≡ 0 = ap (λ s. sum_of s replica) none in
    no_weight w (sum_of sums replica) e (sym zero_there ∙ at ∙ ap (λ n. n + sum_of sums replica) here)

-- a table of a list: a map, of which all starts are empty
record Table_is {K : Type 0} (cmp : K → K → Ordering) (t : Table K Sums) : Type 0 where
  pub map : IsMap cmp TalliesKin tallies_joined t
  pub start : t.start ≡ []
  pub each : (key : K) → IsTally (at_key cmp t key)

single_is : {K : Type 0} {cmp : K → K → Ordering} (key : K) (sums : Sums) → IsTally sums → sums ≢ [] → IsMap cmp TalliesKin tallies_joined (single key sums)
single_is key sums h n = record { ascending = (tt, tt); kept = (record { goes = record { left = empty_is; right = h }; own = empty_joins sums h; differs = n }, tt) }

abbrev one_table : {K : Type 0} → Sums → List (K × Sums) → Table K Sums
one_table start entries = record { start = start; entries = entries }

value_cond : {K : Type 0} (b : Bool) (key : K) (v : Sums) → value_or [] (cond {A = Option (K × Sums)} b (Some (key, v)) None) ≡ cond b v []
value_cond true key v = refl
value_cond false key v = refl

single_at : {K : Type 0} (cmp : K → K → Ordering) (key k : K) (v : Sums) → at_key cmp (single key v) k ≡ cond (is_eq (cmp k key)) v []
single_at cmp key k v = value_cond (is_eq (cmp k key)) key v

is_tally_if : (b : Bool) (v : Sums) → IsTally v → IsTally (cond b v [])
is_tally_if true v h = h
is_tally_if false v h = empty_is

kin_tables : {K : Type 0} {cmp : K → K → Ordering} → TellsApart cmp → (a b : Table K Sums) → Table_is cmp a → Table_is cmp b → MapsKin cmp TalliesKin tallies_joined a b
kin_tables tells a b h k = record {
  tells_apart = tells;
  left = h.map;
  right = k.map;
  starts = h.start ∙ sym k.start;
  values = λ key. record { left = h.each key; right = k.each key };
}

single_table : {K : Type 0} (cmp : K → K → Ordering) (key : K) (v : Sums) → IsTally v → v ≢ [] → Table_is cmp (single key v)
single_table cmp key v h n = record {
  map = single_is key v h n;
  start = refl;
  each = λ k. subst IsTally (sym (single_at cmp key k v)) (is_tally_if (is_eq (cmp k key)) v h);
}

joined_table : {K : Type 0} {cmp : K → K → Ordering} → IsTotalOrder cmp → TellsApart cmp → (a b : Table K Sums) → Table_is cmp a → Table_is cmp b → Table_is cmp (maps_joined cmp tallies_joined a b)
joined_table {K} {cmp} o tells a b h k = record {
  map = map_joined o tally_laws a b h.map k.map (h.start ∙ sym k.start);
  start = h.start;
  each = λ key. subst IsTally (sym (at_key-joined o tally_laws a b (kin_tables tells a b h k) key)) (tally_joined (at_key cmp a key) (at_key cmp b key) (h.each key) (k.each key));
}

equal_from : (o : Ordering) → is_eq o ≡ true → o ≡ Equal
equal_from Less e = absurd cc
equal_from Equal e = refl
equal_from Greater e = absurd cc

-- what is at a key once an operation was put in
here_or_there : {K : Type 0} (cmp : K → K → Ordering) → TellsApart cmp → (t : Table K Sums) (key k : K) (replica w : ℕ) (b : Bool) → is_eq (cmp k key) ≡ b → IsTally (at_key cmp t k)
    → tallies_joined (at_key cmp t k) (cond b (bumped (at_key cmp t key) replica w) []) ≡ bumped (at_key cmp t k) replica (cond b w 0)
here_or_there {K} cmp tells t key k replica w true e h =
    let same : k ≡ key = tells k key (equal_from (cmp k key) e) in
    ap (λ j. tallies_joined (at_key cmp t k) (bumped (at_key cmp t j) replica w)) (sym same) ∙ joins_bumped (at_key cmp t k) replica w h
here_or_there cmp tells t key k replica w false e h = refl

no_weight_if : (b : Bool) (w : ℕ) → w ≡ 0 → cond b w 0 ≡ 0
no_weight_if true w e = e
no_weight_if false w e = refl

record Bumps {K : Type 0} (cmp : K → K → Ordering) (t : Table K Sums) (key : K) (replica w : ℕ) (new : Table K Sums) : Type 0 where
  pub is : Table_is cmp new
  pub at : (k : K) → at_key cmp new k ≡ bumped (at_key cmp t k) replica (cond (is_eq (cmp k key)) w 0)

bumps_from : {K : Type 0} {cmp : K → K → Ordering} → IsTotalOrder cmp → TellsApart cmp → (t : Table K Sums) (key : K) (replica w : ℕ) (b : Bool) → (w == 0) ≡ b → Table_is cmp t
    → Bumps cmp t key replica w (cond b t (maps_joined cmp tallies_joined t (single key (bumped (at_key cmp t key) replica w))))
bumps_from {K} {cmp} o tells t key replica w true e h = record {
  is = h;
  at = λ k. bumped_zero (at_key cmp t k) replica (cond (is_eq (cmp k key)) w 0) (no_weight_if (is_eq (cmp k key)) w (eqb-true w 0 e));
}
bumps_from {K} {cmp} o tells t key replica w false e h =
    let v = bumped (at_key cmp t key) replica w in
    let one = single_table cmp key v (bumped_is (at_key cmp t key) replica w (h.each key)) (not_empty (at_key cmp t key) replica w (h.each key) e) in
    record {
      is = joined_table o tells t (single key v) h one;
      at = λ k. at_key-joined o tally_laws t (single key v) (kin_tables tells t (single key v) h one) k
          ∙ ap (λ s. tallies_joined (at_key cmp t k) s) (single_at cmp key k v)
          ∙ here_or_there cmp tells t key k replica w (is_eq (cmp k key)) refl (h.each k);
    }

bumps : {K : Type 0} {cmp : K → K → Ordering} → IsTotalOrder cmp → TellsApart cmp → (t : Table K Sums) (key : K) (replica w : ℕ) → Table_is cmp t → Bumps cmp t key replica w (bumped_at cmp t key replica w)
bumps o tells t key replica w h = bumps_from o tells t key replica w (w == 0) refl h

table_is : {K : Type 0} {cmp : K → K → Ordering} → IsTotalOrder cmp → TellsApart cmp → (key_of : Done → K) (weight : Done → ℕ) (xs : List Done) → Table_is cmp (table_of cmp key_of weight xs)
table_is o tells key_of weight [] = record { map = record { ascending = tt; kept = tt }; start = refl; each = λ key. empty_is }
table_is {K} {cmp} o tells key_of weight (x ∷ xs) =
    (bumps o tells (table_of cmp key_of weight xs) (key_of x) x.replica (weight x) (table_is o tells key_of weight xs)).is

pub table_reads : {K : Type 0} {cmp : K → K → Ordering} → IsTotalOrder cmp → TellsApart cmp → (key_of : Done → K) (weight : Done → ℕ) (xs : List Done) (k : K)
    → at_key cmp (table_of cmp key_of weight xs) k ≡ tally_of (weight_at cmp key_of weight k) xs
table_reads o tells key_of weight [] k = refl
table_reads {K} {cmp} o tells key_of weight (x ∷ xs) k =
    (bumps o tells (table_of cmp key_of weight xs) (key_of x) x.replica (weight x) (table_is o tells key_of weight xs)).at k
    ∙ ap (λ s. bumped s x.replica (weight_at cmp key_of weight k x)) (table_reads o tells key_of weight xs k)

pub keyed_tallies_mean : {K : Type 0} (cmp : K → K → Ordering) → IsTotalOrder cmp → TellsApart cmp → (key_of : Done → K) (weight : Done → ℕ)
    → Means (MapsKin cmp TalliesKin tallies_joined) (keyed_tallies cmp key_of weight)
keyed_tallies_mean {K} cmp o tells key_of weight =
    let table = table_of cmp key_of weight in
    let is : (xs : List Done) → Table_is cmp (table xs) = table_is o tells key_of weight in
    let added : (xs : List Done) (new : Done) → Bumps cmp (table xs) (key_of new) new.replica (weight new) (bumped_at cmp (table xs) (key_of new) new.replica (weight new)) =
    λ xs new. bumps o tells (table xs) (key_of new) new.replica (weight new) (is xs) in
    keyed_mean (MapsKin cmp TalliesKin tallies_joined) TalliesKin (keyed_tallies cmp key_of weight)
    (λ (k : K). tallied (weight_at cmp key_of weight k)) (at_key cmp)
    (record {
      reads = λ xs k. table_reads o tells key_of weight xs k;
      one = λ a b kin e. same_values_same_map o a b kin e;
      joins = λ xs ys k. at_key-joined o tally_laws (table xs) (table ys) (kin_tables tells (table xs) (table ys) (is xs) (is ys)) k;
      adds = λ xs new k. (added xs new).at k;
      goes = λ xs ys. kin_tables tells (table xs) (table ys) (is xs) (is ys);
      goes_added = λ xs ys new. kin_tables tells (bumped_at cmp (table xs) (key_of new) new.replica (weight new)) (table ys) (added xs new).is (is ys);
      goes_joined = λ xs ys zs. kin_tables tells (maps_joined cmp tallies_joined (table xs) (table ys)) (table zs) (joined_table o tells (table xs) (table ys) (is xs) (is ys)) (is zs);
    })
    (λ k. tallies_mean (weight_at cmp key_of weight k))
