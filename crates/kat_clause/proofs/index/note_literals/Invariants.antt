use Rattle.std.proofs.Common.{ℕ, ◌<◌, pos, get_or, [], Contains}
use Rattle.kat_clause.specs.Literals.{code_of}
use Rattle.kat_clause.specs.Tables.{rows, KeepsRows}
use Rattle.kat_clause.proofs.index.note_literals.Given as goal

abbrev pub invariant-loop-literal : goal.invariant-loop-literal
invariant-loop-literal l =
    KeepsRows (rows l.fn.table.items) (rows l.table.items)
    × ((j : ℕ) → j < l.literal-index → Contains (get_or (rows l.table.items) (code_of (get_or l.clause j (pos 0))) []) l.number)
