-- Used inside only.
-- Used inside only. The steps by which two lists are moved into one, the least entry first.
use Rattle.std.specs.Prelude.{◌≡◌, ◌+◌, ◌<◌, ◌≤◌, List, [], ◌∷◌, Option, Some, None, length}
use Rattle.std.specs.declared.cmp.Ordering.{Ordering}
use Rattle.std.specs.declared.cmp.Ordering.TheVariants.{Less, Greater}
use Rattle.kat_lattice.specs.InPlace.{Taken}
use Rattle.kat_join.specs.Keyed.{IsAscending, by_key, union}
use Rattle.kat_lattice.specs.Sets.{first_one}

-- how the first entries compare; a list without one comes last
abbrev pub heads_compared : {E : Type 0} → (E → E → Ordering) → List E → List E → Ordering
heads_compared cmp (x ∷ xs) (y ∷ ys) = cmp x y
heads_compared cmp [] (y ∷ ys) = Greater
heads_compared cmp _ _ = Less

-- the least entry of both lists is taken out of them
pub record TakesFirst {E : Type 0} (cmp : E → E → Ordering) (xs ys : List E) (e : E) (us vs : List E) : Type 0 where
  pub next : union cmp first_one xs ys ≡ e ∷ union cmp first_one us vs
  pub mine : IsAscending cmp us
  pub fresh : IsAscending cmp vs
  pub fewer : length us + length vs < length xs + length ys

abbrev pub Pops : {E : Type 0} → (E → E → Ordering) → List E → List E → Option E → List E → List E → Type 0
Pops cmp xs ys None us vs = (xs ≡ []) × (ys ≡ [])
Pops cmp xs ys (Some e) us vs = TakesFirst cmp xs ys e us vs

-- the entries with what was taken put in
abbrev pub with_taken : {K V : Type 0} → (K → K → Ordering) → Option (Taken K V) → List (K × V) → List (K × V)
with_taken cmp None xs = xs
with_taken cmp (Some taken) xs = union (by_key cmp) first_one xs taken.entries

-- what was taken ascends, and there is room for all
pub record FitsIn {K V : Type 0} (cmp : K → K → Ordering) (taken : Taken K V) (xs : List (K × V)) : Type 0 where
  pub ascending : IsAscending (by_key cmp) taken.entries
  pub room : length xs + length taken.entries ≤ taken.room

abbrev pub Fits : {K V : Type 0} → (K → K → Ordering) → Option (Taken K V) → List (K × V) → Type 0
Fits cmp None xs = Unit {0}
Fits cmp (Some taken) xs = FitsIn cmp taken xs
