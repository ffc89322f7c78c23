use Rattle.std.proofs.Common.{◌≡◌, ◌++◌, drop}
use Rattle.kat_machine.specs.Fitting.{row_reads}
use Rattle.kat_machine.proofs.choices.push_rows.Given as goal

abbrev pub invariant-loop-component : goal.invariant-loop-component
invariant-loop-component l = l.into.items ++ row_reads l.wanted l.sorts l.component (drop l.component l.rows) ≡ l.fn.into.items ++ row_reads l.wanted l.sorts 0 l.rows
