use Rattle.std.proofs.Common.{length}
use Rattle.kat_hist.proofs.refuting.+some_other.Given as goal

abbrev pub decreases-some_other : goal.decreases-some_other
decreases-some_other l = length l.asks.now
