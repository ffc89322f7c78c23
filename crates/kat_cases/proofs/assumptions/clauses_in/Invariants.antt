use Rattle.std.proofs.Common.{◌≡◌, [], length, take}
use Rattle.kat_clause.specs.Clauses.{lists, AreAmong}
use Rattle.kat_cases.proofs.assumptions.clauses_in.Given as goal

abbrev pub invariant-loop-clause : goal.invariant-loop-clause
invariant-loop-clause l =
    (l.known.greatest ≡ length l.encoded.meanings.items)
    × AreAmong l.known.clauses (take l.clause-index (lists l.encoded.clauses.items))
    × AreAmong (take l.clause-index (lists l.encoded.clauses.items)) l.known.clauses
    × (l.known.assumed ≡ [])
