-- Used inside only.
-- The order in which variables are decided.
use Rattle.std.specs.Prelude.{◌≡◌, ℕ, ◌+◌, ◌<◌, ℤ, pos, neg_ℤ, length, Bool, false, ◌||◌}
use Rattle.kat_links.specs.Lists.{Lists}

-- one list of this many items
pub record IsQueue (greatest : ℕ) (queue : Lists) : Type 0 where
  pub items : queue.items ≡ greatest
  pub one : length queue.lists ≡ 1

-- the positive literal of a variable up to the greatest, neither of whose literals is marked
pub record IsFree (greatest : ℕ) (has : ℤ → Bool) (literal : ℤ) : Type 0 where
  pub place : ℕ
  pub within : place < greatest
  pub at : literal ≡ pos (place + 1)
  pub unknown : (has (pos (place + 1)) || has (neg_ℤ (pos (place + 1)))) ≡ false
