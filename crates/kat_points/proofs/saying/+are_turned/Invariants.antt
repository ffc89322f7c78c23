use Rattle.std.proofs.Common.{length}
use Rattle.kat_points.proofs.saying.+are_turned.Given as goal

abbrev pub decreases-are_turned : goal.decreases-are_turned
decreases-are_turned l = length l.terms.now
