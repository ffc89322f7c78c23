use Rattle.std.proofs.Common.{◌≡◌, ◌≤◌, ℕ, true, length}
use Rattle.kat_fm.specs.Lists.{beats_at, Leads}
use Rattle.kat_fm.specs.Views.{combinations}
use Rattle.kat_fm.proofs.Listings.{left}
use Rattle.kat_fm.proofs.tidying.is_beaten.Given as goal

abbrev pub invariant-loop-link : goal.invariant-loop-link
invariant-loop-link l = record {
  within : l.link ≤ length l.next;
  ahead : (k : ℕ) → beats_at (combinations l.rows) l.place k ≡ true → Leads l.next l.link k;
}

abbrev pub decreases-loop-link : goal.decreases-loop-link
decreases-loop-link l = left l.link (length l.next)
