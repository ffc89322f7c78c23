-- What is drawn of each replica, from the first to the last.
use Rattle.std.specs.Prelude.{ℕ, zero, suc, List, [], ◌++◌}

-- what is drawn of the replicas from 1 up to a number
abbrev pub for_each : (ℕ → List ℕ) → ℕ → List ℕ
for_each draw zero = []
for_each draw (suc k) = for_each draw k ++ draw (suc k)
