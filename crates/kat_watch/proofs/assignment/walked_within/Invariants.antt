use Rattle.std.proofs.Common.{◌≤◌}
use Rattle.kat_watch.proofs.assignment.walked_within.Given as goal

abbrev pub invariant-back : goal.invariant-back
invariant-back l = (l.walked ≤ l.looked) × (l.walked ≤ l.kept)

abbrev pub decreases-back : goal.decreases-back
decreases-back l = l.walked
