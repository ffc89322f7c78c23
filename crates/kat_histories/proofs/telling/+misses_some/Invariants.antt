use Rattle.std.proofs.Common.{length}
use Rattle.kat_histories.proofs.telling.+misses_some.Given as goal

abbrev pub decreases-misses_some : goal.decreases-misses_some
decreases-misses_some l = length l.answers.now
