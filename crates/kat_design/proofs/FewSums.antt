-- How many sums a tally has that operations give, and how great they are.
use Rattle.std.proofs.Common.{◌≡◌, ℕ, suc, ◌+◌, ◌*◌, ◌<◌, ◌≤◌, max, length, Bool, true, false, List, [], ◌∷◌, refl, subst, cond, Option, None, Some, arith, suc-mul}
use Rattle.std.specs.Prelude.{◌==◌}
use Rattle.std.specs.List.{AllByRecursion}
use Rattle.std.specs.declared.cmp.Ordering.{Ordering}
use Rattle.std.specs.declared.cmp.Ordering.TheVariants.{Less}
use Rattle.std.specs.Ordering.{nat_cmp}
use Rattle.std.proofs.lemmas.Cmp.{ranked, by_ranked}
use Rattle.kat_lattice.specs.Keyed.{IsAscending, IsBefore, by_key, found, on_value, put, value_or}
use Rattle.kat_lattice.specs.KeyedLaws.{each_put, each_union, found_each}
use Rattle.kat_lattice.specs.Maps.{Table, at_key, maps_joined}
use Rattle.kat_lattice.specs.Tallies.{IsTally, Sums, sum_of, tallies_joined, tally_joined}
use Rattle.kat_type.specs.declared.done.Done.{Done}
use Rattle.kat_design.specs.KeyedTallies.{bumped_at, single, table_of}
use Rattle.kat_design.specs.Tallied.{bumped, second_of, tally_of}
use Rattle.kat_design.proofs.Tallies.{bumped_is, empty_is}

-- a replica from 1 to 32, with a sum of at most so much
pub record IsCount (bound : ℕ) (e : ℕ × ℕ) : Type 0 where
  pub numbered : 1 ≤ e.0
  pub few : e.0 ≤ 32
  pub low : e.1 ≤ bound

pub record IsCounted (bound : ℕ) (sums : Sums) : Type 0 where
  pub tally : IsTally sums
  pub each : AllByRecursion (IsCount bound) sums

-- what an operation adds, at a replica from 1 to 32
pub record Weighs (weight : Done → ℕ) (most : ℕ) (one : Done) : Type 0 where
  pub numbered : 1 ≤ one.replica
  pub few : one.replica ≤ 32
  pub low : weight one ≤ most

weaker : (bound more : ℕ) (sums : Sums) → AllByRecursion (IsCount bound) sums → AllByRecursion (IsCount (bound + more)) sums
weaker bound more [] h = tt
weaker bound more (e ∷ sums) h = (record { numbered = h.0.numbered; few = h.0.few; low = (let low = h.0.low in omega arith) }, weaker bound more sums h.1)

value_low : (bound : ℕ) (o : Option (ℕ × ℕ)) → ((e : ℕ × ℕ) → o ≡ Some e → IsCount bound e) → value_or 0 o ≤ bound
value_low bound None h = omega arith
value_low bound (Some e) h = (h e refl).low

sum_low : (bound : ℕ) (sums : Sums) (replica : ℕ) → AllByRecursion (IsCount bound) sums → sum_of sums replica ≤ bound
sum_low bound sums replica h = value_low bound (found (by_key nat_cmp) (replica, 0) sums) (λ e is. found_each (IsCount bound) (by_key nat_cmp) (replica, 0) e sums h is)

added_low : (a b w m : ℕ) → a ≤ b → w ≤ m → a + w ≤ b + m
added_low a b w m h k = omega arith

each_bumped : (bound more : ℕ) (sums : Sums) (replica w : ℕ) (b : Bool) → 1 ≤ replica → replica ≤ 32 → w ≤ more → AllByRecursion (IsCount bound) sums
    → AllByRecursion (IsCount (bound + more)) (cond b sums (put (by_key nat_cmp) (on_value second_of) (replica, sum_of sums replica + w) sums))
each_bumped bound more sums replica w true i j l h = weaker bound more sums h
each_bumped bound more sums replica w false i j l h =
    each_put (by_key nat_cmp) (on_value second_of) (IsCount (bound + more)) (λ x y p q. record { numbered = p.numbered; few = p.few; low = q.low }) (replica, sum_of sums replica + w) sums
    (record { numbered = i; few = j; low = added_low (sum_of sums replica) bound w more (sum_low bound sums replica h) l }) (weaker bound more sums h)

pub bumped_counted : (bound more : ℕ) (sums : Sums) (replica w : ℕ) → 1 ≤ replica → replica ≤ 32 → w ≤ more → IsCounted bound sums → IsCounted (bound + more) (bumped sums replica w)
bumped_counted bound more sums replica w i j l h = record { tally = bumped_is sums replica w h.tally; each = each_bumped bound more sums replica w (w == 0) i j l h.each }

once_more : (n most : ℕ) → n * most + most ≡ suc n * most
once_more n most = rw (suc-mul n most) (omega arith)

pub tally_counted : (weight : Done → ℕ) (most : ℕ) (ones : List Done) → AllByRecursion (Weighs weight most) ones → IsCounted (length ones * most) (tally_of weight ones)
tally_counted weight most [] h = record { tally = empty_is; each = tt }
tally_counted weight most (one ∷ ones) h =
    subst (λ bound. IsCounted bound (bumped (tally_of weight ones) one.replica (weight one))) (once_more (length ones) most)
    (bumped_counted (length ones * most) most (tally_of weight ones) one.replica (weight one) h.0.numbered h.0.few h.0.low (tally_counted weight most ones h.1))

-- an ascending list of replicas from 1 to 32 has at most 32
record IsWithin (low : ℕ) (e : ℕ × ℕ) : Type 0 where
  pub above : low ≤ e.0
  pub few : e.0 ≤ 32

less_from : (x y : ℕ) → nat_cmp x y ≡ Less → x < y
less_from x y h = by_ranked (x < y) (x ≡ y) (y < x) (nat_cmp x y) (ranked x y (nat_cmp x y) refl) (λ e l. l) (λ e l. absurd (cc)) (λ e l. absurd (cc))

above_first : (low : ℕ) (x : ℕ × ℕ) (sums : Sums) → IsBefore (by_key nat_cmp) x sums → AllByRecursion (IsWithin low) sums → AllByRecursion (IsWithin (x.0 + 1)) sums
above_first low x [] b h = tt
above_first low x (y ∷ sums) b h = (record { above = (let l : x.0 < y.0 = less_from x.0 y.0 b.0 in omega arith); few = h.0.few }, above_first low x sums b.1 h.1)

one_longer : (n low first : ℕ) → n + (first + 1) ≤ 33 → low ≤ first → suc n + low ≤ 33
one_longer n low first h k = omega arith

few_from : (low : ℕ) (sums : Sums) → low ≤ 33 → IsAscending (by_key nat_cmp) sums → AllByRecursion (IsWithin low) sums → length sums + low ≤ 33
few_from low [] l a h = omega arith
few_from low (x ∷ sums) l a h =
    one_longer (length sums) low x.0 (few_from (x.0 + 1) sums (let few = h.0.few in omega arith) a.1 (above_first low x sums a.0 h.1)) h.0.above

each_within : (bound : ℕ) (sums : Sums) → AllByRecursion (IsCount bound) sums → AllByRecursion (IsWithin 1) sums
each_within bound [] h = tt
each_within bound (e ∷ sums) h = (record { above = h.0.numbered; few = h.0.few }, each_within bound sums h.1)

pub few_sums : (bound : ℕ) (sums : Sums) → IsCounted bound sums → length sums ≤ 32
few_sums bound sums h = let l : length sums + 1 ≤ 33 = few_from 1 sums (omega arith) h.tally.ascending (each_within bound sums h.each) in omega arith

-- tallies by key
pub record AreCounted {K : Type 0} (bound : ℕ) (table : Table K Sums) : Type 0 where
  pub start : IsCounted bound table.start
  pub each : AllByRecursion (λ (e : K × Sums). IsCounted bound e.1) table.entries

joined_counted : (bound : ℕ) (a b : Sums) → IsCounted bound a → IsCounted bound b → IsCounted bound (tallies_joined a b)
joined_counted bound a b h k = record {
  tally = tally_joined a b h.tally k.tally;
  each = each_union (by_key nat_cmp) (on_value max) (IsCount bound)
      (λ x y p q. record { numbered = p.numbered; few = p.few; low = (let l = p.low in let m = q.low in omega arith) }) a b h.each k.each;
}

counted_more : (bound more : ℕ) (sums : Sums) → IsCounted bound sums → IsCounted (bound + more) sums
counted_more bound more sums h = record { tally = h.tally; each = weaker bound more sums h.each }

entries_more : {K : Type 0} (bound more : ℕ) (entries : List (K × Sums)) → AllByRecursion (λ (e : K × Sums). IsCounted bound e.1) entries → AllByRecursion (λ (e : K × Sums). IsCounted (bound + more) e.1) entries
entries_more bound more [] h = tt
entries_more bound more (e ∷ entries) h = (counted_more bound more e.1 h.0, entries_more bound more entries h.1)

table_more : {K : Type 0} (bound more : ℕ) (table : Table K Sums) → AreCounted bound table → AreCounted (bound + more) table
table_more bound more table h = record { start = counted_more bound more table.start h.start; each = entries_more bound more table.entries h.each }

counted_value : {K : Type 0} (bound : ℕ) (start : Sums) (o : Option (K × Sums)) → IsCounted bound start → ((e : K × Sums) → o ≡ Some e → IsCounted bound e.1) → IsCounted bound (value_or start o)
counted_value bound start None h f = h
counted_value bound start (Some e) h f = f e refl

counted_at : {K : Type 0} (cmp : K → K → Ordering) (bound : ℕ) (table : Table K Sums) (key : K) → AreCounted bound table → IsCounted bound (at_key cmp table key)
counted_at {K} cmp bound table key h =
    counted_value bound table.start (found (by_key cmp) (key, table.start) table.entries) h.start
    (λ e is. found_each (λ (x : K × Sums). IsCounted bound x.1) (by_key cmp) (key, table.start) e table.entries h.each is)

table_bumped : {K : Type 0} (cmp : K → K → Ordering) (bound more : ℕ) (table : Table K Sums) (key : K) (replica w : ℕ) (b : Bool) → 1 ≤ replica → replica ≤ 32 → w ≤ more → AreCounted bound table
    → AreCounted (bound + more) (cond b table (maps_joined cmp tallies_joined table (single key (bumped (at_key cmp table key) replica w))))
table_bumped cmp bound more table key replica w true i j l h = table_more bound more table h
table_bumped {K} cmp bound more table key replica w false i j l h =
    let all : AreCounted (bound + more) table = table_more bound more table h in
    record {
      start = all.start;
      each = each_union (by_key cmp) (on_value tallies_joined) (λ (e : K × Sums). IsCounted (bound + more) e.1) (λ x y p q. joined_counted (bound + more) x.1 y.1 p q) table.entries
          ((key, bumped (at_key cmp table key) replica w) ∷ []) all.each
          (bumped_counted bound more (at_key cmp table key) replica w i j l (counted_at cmp bound table key h), tt);
    }

pub table_counted : {K : Type 0} (cmp : K → K → Ordering) (key_of : Done → K) (weight : Done → ℕ) (most : ℕ) (ones : List Done) → AllByRecursion (Weighs weight most) ones
    → AreCounted (length ones * most) (table_of cmp key_of weight ones)
table_counted cmp key_of weight most [] h = record { start = record { tally = empty_is; each = tt }; each = tt }
table_counted cmp key_of weight most (one ∷ ones) h =
    let before = table_of cmp key_of weight ones in
    subst (λ bound. AreCounted bound (bumped_at cmp before (key_of one) one.replica (weight one))) (once_more (length ones) most)
    (table_bumped cmp (length ones * most) most before (key_of one) one.replica (weight one) (weight one == 0) h.0.numbered h.0.few h.0.low (table_counted cmp key_of weight most ones h.1))
