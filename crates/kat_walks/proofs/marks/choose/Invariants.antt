use Rattle.std.proofs.Common.{◌≡◌, ◌≤◌, drop, length, None}
use Rattle.kat_clause.specs.Clauses.{lists}
use Rattle.kat_walks.specs.Walks.{last_bare}
use Rattle.kat_clause.specs.Literals.{has_of}
use Rattle.kat_walks.proofs.marks.choose.Given as goal

abbrev pub invariant-back : goal.invariant-back
invariant-back l = (l.i ≤ length l.clauses) × (last_bare (has_of l.marks) (drop l.i (lists l.clauses)) ≡ None)

abbrev pub decreases-back : goal.decreases-back
decreases-back l = l.i
