use Rattle.std.proofs.Common.{◌≡◌, ℕ, ◌<◌, ◌⊎◌, ℤ, pos, length, get_or, Contains}
use Rattle.kat_clause.specs.Literals.{code_of}
use Rattle.kat_clause.specs.Tables.{IsMarked}
use Rattle.kat_clause.proofs.marks.mark_literals.Given as goal

abbrev pub invariant-loop-literal : goal.invariant-loop-literal
invariant-loop-literal l =
    (length l.marks.items ≡ length l.fn.marks.items)
    × ((k : ℤ) → IsMarked l.fn.marks.items (code_of k) → IsMarked l.marks.items (code_of k))
    × ((j : ℕ) → j < l.literal-index → IsMarked l.marks.items (code_of (get_or l.clause j (pos 0))))
    × ((k : ℤ) → IsMarked l.marks.items (code_of k) → IsMarked l.fn.marks.items (code_of k) ⊎ Contains l.clause k)
