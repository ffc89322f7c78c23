use Rattle.std.proofs.Common.{length}
use Rattle.kat_vc.proofs.keys.+push_same_at_both.Given as goal

abbrev pub decreases-push_same_at_both : goal.decreases-push_same_at_both
decreases-push_same_at_both g l = length l.places.now
