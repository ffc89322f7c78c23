use Rattle.std.proofs.Common.{length}
use Rattle.kat_claims.proofs.groups.+push_same_each.Given as goal

abbrev pub decreases-push_same_each : goal.decreases-push_same_each
decreases-push_same_each g l = length l.seen.now
