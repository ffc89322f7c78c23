use Rattle.std.proofs.Common.{◌≡◌, ◌≤◌, drop, length, None}
use Rattle.kat_clause.specs.Clauses.{lists}
use Rattle.kat_cases.specs.Nodes.{last_unmet}
use Rattle.kat_clause.specs.Literals.{has_of}
use Rattle.kat_cases.proofs.marks.choose.Given as goal

abbrev pub invariant-back : goal.invariant-back
invariant-back l = (l.i ≤ length l.clauses) × (last_unmet (has_of l.marks) (drop l.i (lists l.clauses)) ≡ None)

abbrev pub decreases-back : goal.decreases-back
decreases-back l = l.i
