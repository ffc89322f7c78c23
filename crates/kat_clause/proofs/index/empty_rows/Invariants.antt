use Rattle.std.proofs.Common.{◌≡◌, length}
use Rattle.kat_clause.proofs.index.empty_rows.Given as goal

abbrev pub invariant-loop : goal.invariant-loop
invariant-loop l = length l.table.items ≡ l.counter
