use Rattle.std.proofs.Common.{length}
use Rattle.kat_gram.proofs.agreeing.+are_sorts.Given as goal

abbrev pub decreases-are_sorts : goal.decreases-are_sorts
decreases-are_sorts l = length l.left.now
