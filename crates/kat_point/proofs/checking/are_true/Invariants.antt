use Rattle.std.proofs.Common.{All, take}
use Rattle.kat_clause.specs.Clauses.{lists}
use Rattle.kat_clause.specs.Valuations.{IsTrueClause}
use Rattle.kat_point.specs.Values.{value_at}
use Rattle.kat_point.proofs.checking.are_true.Given as goal

abbrev pub invariant-loop-clause : goal.invariant-loop-clause
invariant-loop-clause l = All (IsTrueClause (value_at l.values)) (take l.clause-index (lists l.clauses))
