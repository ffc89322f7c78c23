use Rattle.std.proofs.Common.{ℕ, ◌<◌, pos, neg_ℤ, get_or}
use Rattle.kat_clause.specs.Tables.{IsMarked}
use Rattle.kat_clause.specs.Literals.{code_of}
use Rattle.kat_clause.proofs.opens.first_open.Given as goal

abbrev pub invariant-loop-i : goal.invariant-loop-i
invariant-loop-i l = (j : ℕ) → j < l.i → IsMarked l.marks (code_of (neg_ℤ (get_or l.clause j (pos 0))))
