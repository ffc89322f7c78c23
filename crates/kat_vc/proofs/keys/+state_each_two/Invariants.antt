use Rattle.std.proofs.Common.{length}
use Rattle.kat_vc.proofs.keys.+state_each_two.Given as goal

abbrev pub decreases-state_each_two : goal.decreases-state_each_two
decreases-state_each_two g l = length l.instances.now
