use Rattle.std.proofs.Common.{length}
use Rattle.kat_histories.proofs.choices.+push_some_of.Given as goal

abbrev pub decreases-push_some_of : goal.decreases-push_some_of
decreases-push_some_of g l = length l.list.now
