use Rattle.std.proofs.Common.{length}
use Rattle.kat_histories.proofs.calls.+push_ops.Given as goal

abbrev pub decreases-push_ops : goal.decreases-push_ops
decreases-push_ops l = length l.ops.now
