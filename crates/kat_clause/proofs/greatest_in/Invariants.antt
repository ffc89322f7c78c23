use Rattle.std.proofs.Common.{ℕ, ◌<◌, ◌≤◌, pos, get_or, unsigned_abs}
use Rattle.kat_clause.proofs.greatest_in.Given as goal

abbrev pub invariant-loop-literal : goal.invariant-loop-literal
invariant-loop-literal l = (l.least ≤ l.greatest) × ((j : ℕ) → j < l.literal-index → unsigned_abs (get_or l.clause j (pos 0)) ≤ l.greatest)
