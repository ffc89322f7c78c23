use Rattle.std.proofs.Common.{length}
use Rattle.kat_hist.proofs.arrangements.+may_follow_all.Given as goal

abbrev pub decreases-may_follow_all : goal.decreases-may_follow_all
decreases-may_follow_all l = length l.order.now
