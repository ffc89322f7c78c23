use Rattle.std.proofs.Common.{length}
use Rattle.kat_clause.specs.Clauses.{lists}
use Rattle.kat_clause.specs.Propagations.{unmarked}
use Rattle.kat_clause.specs.Tables.{rows}
use Rattle.kat_clause.specs.Walkings.{Goes}
use Rattle.kat_clause.proofs.finding.find_hints.Given as goal

abbrev pub invariant-turns : goal.invariant-turns
invariant-turns l = Goes (lists l.clauses) l.line (length (rows l.table)) l.steps.items l.walk

abbrev pub decreases-turns : goal.decreases-turns
decreases-turns l = unmarked l.walk.set.marks.items
