-- Used inside only.
-- Rows that are differences of two variables, and what elimination answers of them.
use Rattle.std.specs.Prelude.{◌≡◌, ℕ, ◌<◌, ◌≤◌, ◌^◌, ◌==◌, if◌then◌else◌, ℤ, pos, ◌-ℤ◌, unsigned_abs, List, slice_index_or}
use Rattle.std.specs.List.{All}
use Rattle.kat_linear.specs.Rows.{Form, IsMet, coefficient}
use Rattle.kat_fm.specs.Answers.{HasVariablesBelow}
use Rattle.kat_fm.specs.Eliminations.{elim_of}
use Rattle.kat_fm.specs.Eliminations.Solution.{met_at}

-- 1 for a place, and 0 for all others
abbrev pub unit : ℕ → ℕ → ℤ
unit place v = if place == v then pos 1 else pos 0

-- The row is a difference in so many variables: a variable less another, or one of them alone, or neither, and a constant of at
-- most 2^40 in absolute value. A number that is no variable's is that of the one that isn't there.
pub record IsDifference (vars : ℕ) (form : Form) : Type 0 where
  pub lower : ℕ
  pub higher : ℕ
  pub lower_most : lower ≤ vars
  pub higher_most : higher ≤ vars
  pub is : (v : ℕ) → v < vars → coefficient v form ≡ unit lower v -ℤ unit higher v
  pub narrow : unsigned_abs form.constant ≤ 2 ^ 40

-- If some whole numbers meet all rows, and these are differences in at most 60 variables, elimination ends at a point.
abbrev pub DifferencesEndAtPoints : Type 0
DifferencesEndAtPoints = (forms : List Form) (vars : ℕ) → vars ≤ 60 → All (HasVariablesBelow vars) forms → All (IsDifference vars) forms
    → (values : ℕ → ℤ) → All (IsMet 1 values) forms → (den : ℤ) × (nums : List ℤ) × (elim_of forms vars ≡ met_at den nums)

-- the values of variables, less that of a place of its own, which stands for 0
abbrev pub values_over : List ℤ → ℕ → ℕ → ℤ
values_over values nought v = slice_index_or values v (pos 0) -ℤ slice_index_or values nought (pos 0)

-- the row is a difference, and the values meet it
abbrev pub IsMetApart : ℕ → List ℤ → Form → Type 0
IsMetApart nought values form = IsDifference nought form × IsMet 1 (values_over values nought) form
