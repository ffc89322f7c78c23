use Rattle.std.proofs.Common.{◌≡◌, [], All, take}
use Rattle.kat_clause.specs.Clauses.{lists, AreAmong}
use Rattle.kat_clause.specs.Known.{AreUpTo}
use Rattle.kat_clause.proofs.rup.Given as goal

abbrev pub invariant-loop-clause : goal.invariant-loop-clause
invariant-loop-clause l =
    AreAmong l.known.clauses (take l.clause-index (lists l.clauses))
    × AreAmong (take l.clause-index (lists l.clauses)) l.known.clauses
    × (l.known.assumed ≡ [])
    × AreUpTo l.known.greatest l.line
    × All (AreUpTo l.known.greatest) (lists l.clauses)
