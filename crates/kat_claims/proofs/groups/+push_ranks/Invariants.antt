use Rattle.std.proofs.Common.{length}
use Rattle.kat_claims.proofs.groups.+push_ranks.Given as goal

abbrev pub decreases-push_ranks : goal.decreases-push_ranks
decreases-push_ranks g l = length l.ranks.now
