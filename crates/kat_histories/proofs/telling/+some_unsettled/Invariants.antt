use Rattle.std.proofs.Common.{length}
use Rattle.kat_histories.proofs.telling.+some_unsettled.Given as goal

abbrev pub decreases-some_unsettled : goal.decreases-some_unsettled
decreases-some_unsettled l = length l.answers.now
