use Rattle.std.proofs.Common.{length}
use Rattle.kat_histories.proofs.calls.+push_queries.Given as goal

abbrev pub decreases-push_queries : goal.decreases-push_queries
decreases-push_queries l = length l.queries.now
