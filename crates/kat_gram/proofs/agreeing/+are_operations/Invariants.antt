use Rattle.std.proofs.Common.{length}
use Rattle.kat_gram.proofs.agreeing.+are_operations.Given as goal

abbrev pub decreases-are_operations : goal.decreases-are_operations
decreases-are_operations l = length l.left.now
