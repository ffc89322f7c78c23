-- Tallies by key.
use Rattle.std.specs.Prelude.{ℕ, ◌==◌, List, [], ◌∷◌, if◌then◌else◌}
use Rattle.std.specs.declared.cmp.Ordering.{Ordering}
use Rattle.std.specs.Ordering.{is_eq}
use Rattle.kat_lattice.specs.Maps.{Table, at_key, maps_joined}
use Rattle.kat_lattice.specs.Tallies.{Sums, tallies_joined}
use Rattle.kat_type.specs.declared.done.Done.{Done}
use Rattle.kat_design.specs.Meanings.{Meaning}
use Rattle.kat_design.specs.Tallied.{bumped}

-- a table with one entry
abbrev pub single : {K : Type 0} → K → Sums → Table K Sums
single key sums = record { start = []; entries = (key, sums) ∷ [] }

-- the weight that an operation has at a key
abbrev pub weight_at : {K : Type 0} → (K → K → Ordering) → (Done → K) → (Done → ℕ) → K → Done → ℕ
weight_at cmp key_of weight key one = if is_eq (cmp key (key_of one)) then weight one else 0

-- one operation more: the tally at its key has more of its replica
abbrev pub bumped_at : {K : Type 0} → (K → K → Ordering) → Table K Sums → K → ℕ → ℕ → Table K Sums
bumped_at cmp table key replica weight =
    if weight == 0 then table else maps_joined cmp tallies_joined table (single key (bumped (at_key cmp table key) replica weight))

abbrev pub table_of : {K : Type 0} → (K → K → Ordering) → (Done → K) → (Done → ℕ) → List Done → Table K Sums
table_of cmp key_of weight [] = record { start = []; entries = [] }
table_of cmp key_of weight (one ∷ ones) = bumped_at cmp (table_of cmp key_of weight ones) (key_of one) one.replica (weight one)

abbrev pub keyed_tallies : {K : Type 0} → (K → K → Ordering) → (Done → K) → (Done → ℕ) → Meaning (Table K Sums)
keyed_tallies cmp key_of weight = record {
  state_of = table_of cmp key_of weight;
  joined = maps_joined cmp tallies_joined;
  added = λ t one. bumped_at cmp t (key_of one) one.replica (weight one);
}
