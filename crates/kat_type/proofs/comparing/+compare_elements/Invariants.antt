use Rattle.std.proofs.Common.{length}
use Rattle.kat_type.proofs.comparing.+compare_elements.Given as goal

abbrev pub decreases-compare_elements : goal.decreases-compare_elements
decreases-compare_elements l = length l.left_rank.now
