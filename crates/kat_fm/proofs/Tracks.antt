-- What each row of elimination is, by the given rows.
use Rattle.std.specs.Prelude.{◌≡◌, ℕ, ◌<◌, ◌≤◌, ◌^◌, ℤ, pos, ◌+ℤ◌, ◌*ℤ◌, ◌≤ℤ◌, List, [], ◌∷◌, length, unsigned_abs}
use Rattle.std.specs.List.{All}
use Rattle.kat_linear.specs.Rows.{Form, coefficient}
use Rattle.kat_linear.specs.Sums.{combined}
use Rattle.kat_fm.specs.Combinations.{Combination, at}

-- the sum of coefficient times numerator
abbrev pub dot : List ℤ → List ℤ → ℤ
dot [] ns = pos 0
dot (c ∷ cs) [] = pos 0
dot (c ∷ cs) (n ∷ ns) = (c *ℤ n) +ℤ dot cs ns

-- the numerators over the denominator meet the row
abbrev pub IsMetRow : ℤ → List ℤ → Combination → Type 0
IsMetRow den nums row = (dot row.coefficients nums +ℤ row.constant *ℤ den) ≤ℤ pos 0

-- The row is what the given rows come to, each times its multiplier, and no multiplier passes its limit.
pub record IsTracked (forms : List Form) (vars : ℕ) (row : Combination) : Type 0 where
  pub size : length row.coefficients ≡ vars
  pub count : length row.multipliers ≡ length forms
  pub coefficients : (v : ℕ) → v < vars → at v row ≡ combined (coefficient v) forms row.multipliers
  pub constant : row.constant ≡ combined (λ (r : Form). r.constant) forms row.multipliers
  pub signs : All (λ m. pos 0 ≤ℤ m) row.multipliers
  pub small : All (λ m. unsigned_abs m ≤ 2 ^ 62) row.multipliers
