use Rattle.std.proofs.Common.{ℕ, ◌<◌, ◌≢◌, pos, neg_ℤ, get_or}
use Rattle.kat_clause.specs.Tables.{IsMarked}
use Rattle.kat_clause.specs.Literals.{code_of}
use Rattle.kat_clause.proofs.opens.is_only_open.Given as goal

abbrev pub invariant-loop-i : goal.invariant-loop-i
invariant-loop-i l = (j : ℕ) → l.first < j → j < l.i → get_or l.clause j (pos 0) ≢ get_or l.clause l.first (pos 0) → IsMarked l.marks (code_of (neg_ℤ (get_or l.clause j (pos 0))))
