use Rattle.std.proofs.Common.{length}
use Rattle.kat_relation.proofs.fitting.+match_elements.Given as goal

abbrev pub decreases-match_elements : goal.decreases-match_elements
decreases-match_elements l = length l.leaves.now
