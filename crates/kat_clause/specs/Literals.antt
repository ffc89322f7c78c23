-- Used inside only.
-- Literals as places in a table, and their variables.
use Rattle.std.specs.Prelude.{ℕ, ◌+◌, ◌*◌, ◌≤◌, ℤ, pos, negsuc, unsigned_abs, List, Bool, false, slice_index_or}

-- A literal's code: 2 v for the variable v, 2 v + 1 for its negative.
abbrev pub code_of : ℤ → ℕ
code_of (pos n) = 2 * n
code_of (negsuc n) = 2 * n + 3

-- the literal's variable is one of those up to the greatest
abbrev pub IsUpTo : ℕ → ℤ → Type 0
IsUpTo greatest k = unsigned_abs k ≤ greatest

-- Marks stand for the literals whose codes are marked.
abbrev pub has_of : List Bool → ℤ → Bool
has_of marks k = slice_index_or marks (code_of k) false
