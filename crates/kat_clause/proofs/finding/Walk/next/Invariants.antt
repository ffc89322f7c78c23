use Rattle.std.proofs.Common.{◌≡◌, [], length}
use Rattle.kat_clause.specs.Clauses.{lists}
use Rattle.kat_clause.specs.Propagations.{SameSet}
use Rattle.kat_clause.specs.Findings.{IsWalk, AreNoticed}
use Rattle.kat_clause.proofs.finding.Walk.next.Given as goal

abbrev pub invariant-loop-number : goal.invariant-loop-number
invariant-loop-number l =
    SameSet l.fn.self.set l.self.set
    × (l.self.falsified ≡ l.fn.self.falsified)
    × IsWalk (lists l.clauses) l.self
    × (AreNoticed (lists l.clauses) [] l.fn.self → AreNoticed (lists l.clauses) [] l.self)

abbrev pub decreases-loop-number : goal.decreases-loop-number
decreases-loop-number l = length l.self.queue
