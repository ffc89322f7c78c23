use Rattle.std.proofs.Common.{◌≡◌, [], length, take}
use Rattle.kat_clause.specs.Clauses.{lists}
use Rattle.kat_clause.specs.Tables.{AreSetsOf}
use Rattle.kat_refute.proofs.clauses_in.Given as goal

abbrev pub invariant-loop-clause : goal.invariant-loop-clause
invariant-loop-clause l =
    (l.known.greatest ≡ length l.encoded.meanings.items)
    × AreSetsOf (take l.clause-index (lists l.encoded.clauses.items)) l.known.clauses
    × (l.known.assumed ≡ [])
