-- Used inside only.
-- One column of the rows, the constants' or a variable's, and its sum.
use Rattle.std.specs.Prelude.{◌≡◌, ℕ, suc, ◌<◌, ◌≤◌, ℤ, pos, List, take, slice_index_or, Option, Some, None, Bool, IsTrue, ◌↔◌}
use Rattle.std.specs.List.{All}
use Rattle.kat_linear.specs.declared.Column.{Column}
use Rattle.kat_linear.specs.declared.Column.TheVariants.{Variable, Constant}
use Rattle.kat_linear.specs.Rows.{Form, coefficient}
use Rattle.kat_linear.specs.Sums.{IsNarrow, int_sum, products, combined, StaysNarrow, GoesWide}

-- the number of a row that belongs to a column
abbrev pub number_in : Column → Form → ℤ
number_in Constant row = row.constant
number_in (Variable v) row = coefficient v row

-- the sum of a column's products, or none if they go wide
abbrev pub IsColumnSum : List ℤ → Option ℤ → Type 0
IsColumnSum zs None = GoesWide zs
IsColumnSum zs (Some s) = StaysNarrow zs × (s ≡ int_sum zs)

-- no row has the variable
abbrev pub AreWithout : List Form → ℕ → Type 0
AreWithout rows v = All (λ row. coefficient v row ≡ pos 0) rows

-- the next variable of the rows from a number on, or none
abbrev pub IsNext : List Form → ℕ → Option ℕ → Type 0
IsNext rows from None = (v : ℕ) → from ≤ v → AreWithout rows v
IsNext rows from (Some next) = (from ≤ next) × ((v : ℕ) → from ≤ v → v < next → AreWithout rows v)

-- whether each variable's sum is 0, or none if some variable's products or sums go wide
abbrev pub IsBalance : List Form → List ℤ → Option Bool → Type 0
IsBalance rows ms None = (v : ℕ) × GoesWide (products (coefficient v) rows ms)
IsBalance rows ms (Some b) = ((v : ℕ) → StaysNarrow (products (coefficient v) rows ms)) × (IsTrue b ↔ ((v : ℕ) → combined (coefficient v) rows ms ≡ pos 0))

-- the numbers and sums below a place are narrow, and `sum` is the sum before it
abbrev pub IsNarrowUpTo : List ℤ → ℕ → ℤ → Type 0
IsNarrowUpTo zs n sum = (sum ≡ int_sum (take n zs)) × ((k : ℕ) → k < n → IsNarrow (slice_index_or zs k (pos 0)) × IsNarrow (int_sum (take (suc k) zs)))
