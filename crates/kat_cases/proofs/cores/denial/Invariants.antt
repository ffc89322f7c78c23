use Rattle.std.proofs.Common.{◌≡◌, ◌≤◌, length, drop}
use Rattle.kat_clause.specs.Clauses.{opposites}
use Rattle.kat_cases.specs.Walks.{ascending}
use Rattle.kat_cases.proofs.cores.denial.Given as goal

abbrev pub invariant-back : goal.invariant-back
invariant-back l = (l.i ≤ length l.core) × (l.lits.items ≡ ascending (opposites (drop l.i l.core)))

abbrev pub decreases-back : goal.decreases-back
decreases-back l = l.i
