use Rattle.std.proofs.Common.{length}
use Rattle.kat_hist.proofs.arrangements.+some_is_unlike.Given as goal

abbrev pub decreases-some_is_unlike : goal.decreases-some_is_unlike
decreases-some_is_unlike l = length l.asks.now
