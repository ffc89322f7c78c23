use Rattle.std.proofs.Common.{length}
use Rattle.kat_replica.proofs.applying.+apply_each.Given as goal

abbrev pub decreases-apply_each : goal.decreases-apply_each
decreases-apply_each l = length l.parts.now
