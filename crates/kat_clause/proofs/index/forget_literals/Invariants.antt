use Rattle.kat_clause.specs.Tables.{rows, KeepsBut}
use Rattle.kat_clause.proofs.index.forget_literals.Given as goal

abbrev pub invariant-loop-literal : goal.invariant-loop-literal
invariant-loop-literal l = KeepsBut l.number (rows l.fn.table.items) (rows l.table.items)
