use Rattle.std.proofs.Common.{drop}
use Rattle.kat_clause.specs.Clauses.{lists}
use Rattle.kat_clause.specs.Propagations.{SameSet}
use Rattle.kat_clause.specs.Findings.{IsWalk, AreNoticed}
use Rattle.kat_clause.proofs.finding.Walk.look_all.Given as goal

abbrev pub invariant-loop-number : goal.invariant-loop-number
invariant-loop-number l =
    SameSet l.fn.self.set l.self.set
    × IsWalk (lists l.clauses) l.self
    × (AreNoticed (lists l.clauses) l.numbers l.fn.self → AreNoticed (lists l.clauses) (drop l.number-index l.numbers) l.self)
