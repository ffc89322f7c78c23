-- Used inside only.
-- The rows by their coefficients, so that each is compared with those of its list alone.
use Rattle.std.specs.Prelude.{◌≡◌, ℕ, suc, ◌+◌, ◌-◌, ◌*◌, ◌/◌, ◌%◌, ◌^◌, ◌<◌, ◌≤◌, ◌⊎◌, ℤ, pos, int_lt, unsigned_abs, List, [], ◌∷◌, length, Bool, ◌&&◌, if◌then◌else◌, nat_lt, slice_index_or}
use Rattle.kat_linear.specs.Rows.{Term}
use Rattle.kat_fm.specs.Combinations.{Combination}
use Rattle.kat_fm.specs.Comparisons.{covers, exceeds}
use Rattle.kat_fm.specs.Views.{no_row}
use Rattle.kat_fm.specs.Entries.{entries_from}

-- 64 bits of a number
abbrev pub sized : ℤ → ℕ
sized z = if int_lt z (pos 0) then 2 ^ 64 - 1 - unsigned_abs z % 2 ^ 64 else unsigned_abs z % 2 ^ 64

-- a number with another mixed in, and one made of entries after one made so far
abbrev pub mixed : ℕ → ℕ → ℕ
mixed n m = (n + m) % 2 ^ 64 * 11400714819323198485 % 2 ^ 64

abbrev pub spread_from : ℕ → List Term → ℕ
spread_from n [] = n
spread_from n (e ∷ es) = spread_from (mixed (mixed n e.0) (sized e.1)) es

abbrev pub list_number : ℕ → Combination → ℕ
list_number count row = spread_from 0 (entries_from 0 row.coefficients) * count / 2 ^ 64

-- A row is in the list that begins at a link. A link is one more than a place, or 0 at the end, and `next` has the link
-- after each place.
pub data Leads (next : List ℕ) : ℕ → ℕ → Type 0 where
  here : {place : ℕ} → Leads next (suc place) place
  before : {place k : ℕ} → Leads next (slice_index_or next place 0) k → Leads next (suc place) k

-- each link is 0 or leads further on, and none past the rows
pub record AreOnward (next : List ℕ) : Type 0 where
  pub up : (k : ℕ) → (slice_index_or next k 0 ≡ 0) ⊎ (k + 1 < slice_index_or next k 0)
  pub within : (k : ℕ) → slice_index_or next k 0 ≤ length next

-- the rows from a place on are in their lists, whose numbers these are; `first` has the link at which each list begins
pub record AreLinked (numbers : List ℕ) (from : ℕ) (first next : List ℕ) : Type 0 where
  pub count : length first ≡ length numbers
  pub size : length next ≡ length numbers
  pub onward : AreOnward next
  pub first_up : (k : ℕ) → (slice_index_or first k 0 ≡ 0) ⊎ (from < slice_index_or first k 0)
  pub first_within : (k : ℕ) → slice_index_or first k 0 ≤ length next
  pub linked : (k : ℕ) → from ≤ k → k < length numbers → Leads next (slice_index_or first (slice_index_or numbers k 0) 0) k

-- a row comes before another of its coefficients and has at least its constant, or after it and has more
abbrev pub beats_at : List Combination → ℕ → ℕ → Bool
beats_at rows place other =
    nat_lt other (length rows) && (if nat_lt other place then covers (slice_index_or rows other no_row) (slice_index_or rows place no_row) else (nat_lt place other && exceeds (slice_index_or rows other no_row) (slice_index_or rows place no_row)))
