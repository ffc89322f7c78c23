-- Used inside only.
-- Used by kat_fm and inside only: a list of numbers most of which are 0, as the others with their places.
use Rattle.std.specs.Prelude.{◌≡◌, ◌≢◌, ℕ, suc, ◌<◌, ◌≤◌, ℤ, pos, unsigned_abs, List, [], ◌∷◌, ◌++◌, map, filter, Bool, true, false, not, ◌&&◌, ◌==◌, if◌then◌else◌}
use Rattle.std.specs.Ordering.{int_eq}
use Rattle.std.specs.List.{All}
use Rattle.std.specs.Coded.{×_prop, Unit-prop}
use Rattle.std.proofs.Props.{props}
use Rattle.kat_linear.specs.Rows.{Term, AreAscending, coefficient_in}
use Rattle.kat_fm.specs.Combinations.{counted}
use Rattle.kat_fm.specs.Comparisons.{is_zero}

pub ascending-prop : (entries : List Term) → IsProp (AreAscending entries)
ascending-prop [] = Unit-prop
ascending-prop (e ∷ es) = ×_prop (Prim.hlevel props) (ascending-prop es)

-- the places ascend and are below a count, and no number is 0
pub record AreEntries (count : ℕ) (entries : List Term) : Type 0 where
  pub ascending : AreAscending entries
  pub below : All (λ (e : Term). e.0 < count) entries
  pub not_zero : All (λ (e : Term). e.1 ≢ pos 0) entries

-- the list of so many numbers that has these, and 0 elsewhere
abbrev pub numbers_at : ℕ → List Term → List ℤ
numbers_at count entries = map (λ place. coefficient_in entries place) (counted 0 count)

-- no number passes a limit
abbrev pub AreWithin : ℕ → List Term → Type 0
AreWithin limit entries = All (λ (e : Term). unsigned_abs e.1 ≤ limit) entries

abbrev pub same_entries : List Term → List Term → Bool
same_entries [] [] = true
same_entries (a ∷ es) (b ∷ ds) = (a.0 == b.0) && (int_eq a.1 b.1 && same_entries es ds)
same_entries _ _ = false

-- the entries without those of 0
abbrev pub without_zeros : List Term → List Term
without_zeros entries = filter (λ (e : Term). not (is_zero e.1)) entries

-- the numbers other than 0 with their places, of which the first number has this one
abbrev pub entries_from : ℕ → List ℤ → List Term
entries_from place [] = []
entries_from place (z ∷ zs) = if is_zero z then entries_from (suc place) zs else (place, z) ∷ entries_from (suc place) zs

-- the entries with one for a number more, unless it is 0
abbrev pub with_entry : List Term → ℕ → ℤ → List Term
with_entry entries place z = if is_zero z then entries else entries ++ (place, z) ∷ []

-- The first place that one of two lists of entries has, with the numbers of both there, and what is left of both after it.
pub record IsNextPlace (ps ns ps_left ns_left : List Term) (place : ℕ) (p n : ℤ) : Type 0 where
  pub plus : p ≡ coefficient_in ps place
  pub minus : n ≡ coefficient_in ns place
  pub reached : (from : ℕ) → All (λ (e : Term). from ≤ e.0) ps → All (λ (e : Term). from ≤ e.0) ns → from ≤ place
  pub before : (w : ℕ) → w < place → (coefficient_in ps w ≡ pos 0) × (coefficient_in ns w ≡ pos 0)
  pub behind : (w : ℕ) → place < w → (coefficient_in ps w ≡ coefficient_in ps_left w) × (coefficient_in ns w ≡ coefficient_in ns_left w)
  pub plus_behind : All (λ (e : Term). place < e.0) ps_left
  pub minus_behind : All (λ (e : Term). place < e.0) ns_left
  pub plus_ascending : AreAscending ps_left
  pub minus_ascending : AreAscending ns_left
