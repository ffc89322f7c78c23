use Rattle.std.proofs.Common.{length}
use Rattle.kat_histories.proofs.groups.+push_dones.Given as goal

abbrev pub decreases-push_dones : goal.decreases-push_dones
decreases-push_dones l = length l.stamps.now
