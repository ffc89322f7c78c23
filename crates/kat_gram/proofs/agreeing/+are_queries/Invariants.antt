use Rattle.std.proofs.Common.{length}
use Rattle.kat_gram.proofs.agreeing.+are_queries.Given as goal

abbrev pub decreases-are_queries : goal.decreases-are_queries
decreases-are_queries l = length l.left.now
