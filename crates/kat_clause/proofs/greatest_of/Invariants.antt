use Rattle.std.proofs.Common.{All, take}
use Rattle.kat_clause.specs.Clauses.{lists}
use Rattle.kat_clause.specs.Known.{AreUpTo}
use Rattle.kat_clause.proofs.greatest_of.Given as goal

abbrev pub invariant-loop-clause : goal.invariant-loop-clause
invariant-loop-clause l = AreUpTo l.greatest l.line × All (AreUpTo l.greatest) (take l.clause-index (lists l.clauses))
