use Rattle.std.proofs.Common.{ℕ, ◌<◌, pos, get_or, Contains}
use Rattle.kat_clause.proofs.hinter.is_within.Given as goal

abbrev pub invariant-loop-literal : goal.invariant-loop-literal
invariant-loop-literal l = (j : ℕ) → j < l.literal-index → Contains l.set (get_or l.few j (pos 0))
