use Rattle.kat_clause.specs.Clauses.{lists}
use Rattle.kat_clause.specs.Propagations.{HaveVisited}
use Rattle.kat_clause.proofs.propagation.Propagation.visit_all.Given as goal

abbrev pub invariant-loop-number : goal.invariant-loop-number
invariant-loop-number l = HaveVisited (lists l.clauses) l.numbers l.number-index l.fn.self l.self
