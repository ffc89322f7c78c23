use Rattle.std.proofs.Common.{length}
use Rattle.kat_claims.proofs.groups.+push_ranks_match.Given as goal

abbrev pub decreases-push_ranks_match : goal.decreases-push_ranks_match
decreases-push_ranks_match l = length l.ops.now
