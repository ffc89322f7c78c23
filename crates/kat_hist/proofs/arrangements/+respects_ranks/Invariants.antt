use Rattle.std.proofs.Common.{length}
use Rattle.kat_hist.proofs.arrangements.+respects_ranks.Given as goal

abbrev pub decreases-respects_ranks : goal.decreases-respects_ranks
decreases-respects_ranks l = length l.order.now
