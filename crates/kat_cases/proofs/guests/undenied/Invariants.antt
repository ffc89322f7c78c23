use Rattle.std.proofs.Common.{◌≡◌, ℕ, ◌<◌, pos, neg_ℤ, get_or, true}
use Rattle.kat_clause.specs.Literals.{has_of}
use Rattle.kat_cases.proofs.guests.undenied.Given as goal

abbrev pub invariant-loop-literal : goal.invariant-loop-literal
invariant-loop-literal l = (j : ℕ) → j < l.literal-index → has_of l.marks (neg_ℤ (get_or l.clause j (pos 0))) ≡ true
