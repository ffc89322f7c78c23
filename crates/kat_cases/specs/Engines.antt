-- Used inside only.
-- What a search that learns clauses works on.
use Rattle.std.specs.Prelude.{◌≡◌, ℕ}
use Rattle.kat_links.specs.Lists.{Lists}
use Rattle.kat_watch.specs.Watched.{Watched}
use Rattle.kat_resolution.specs.Queues.{IsQueue}

-- the clauses are over the variables up to the greatest, and these are in the queue, each less one
pub record IsEngine (greatest : ℕ) (w : Watched) (queue : Lists) : Type 0 where
  pub variables : w.greatest ≡ greatest
  pub queued : IsQueue greatest queue
