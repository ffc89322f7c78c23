-- Used inside only.
-- How many variables a path leaves free, and so how many leaves a walk has at most.
use Rattle.std.specs.Prelude.{◌≡◌, ℕ, zero, suc, ◌+◌, ◌<◌, ◌≤◌, ℤ, pos, neg_ℤ, List, length, Bool, not, ◌||◌, if◌then◌else◌}
use Rattle.kat_cases.specs.Nodes.{Setting}
use Rattle.kat_cases.specs.Nodes.End.{spent}
use Rattle.kat_cases.specs.Walks.{Outcome, has_literal}
use Rattle.kat_cases.specs.Walks.Outcome.{core, ended}

-- no literal of the variable is on the path
abbrev pub is_free : List ℤ → ℕ → Bool
is_free path v = not (has_literal (pos v) path || has_literal (neg_ℤ (pos v)) path)

-- how many of the numbers from one on, so many, pass
abbrev pub count_from : (ℕ → Bool) → ℕ → ℕ → ℕ
count_from test v zero = 0
count_from test v (suc n) = (if test v then 1 else 0) + count_from test (suc v) n

-- how many variables of the setting have no literal on the path
abbrev pub free : Setting → List ℤ → ℕ
free s path = count_from (is_free path) 1 (length s.encoding.senses)

-- a node has its core after at most so many leaves, and is spent only if fewer were left
abbrev pub IsBounded : ℕ → ℕ → Outcome → Type 0
IsBounded left most (core c lines behind) = left ≤ behind + most
IsBounded left most (ended end) = end ≡ spent → left < most
