use Rattle.std.proofs.Common.{length}
use Rattle.kat_claims.proofs.claims.+push_elements.Given as goal

abbrev pub decreases-push_elements : goal.decreases-push_elements
decreases-push_elements g l = length l.leaves.now
