use Rattle.std.proofs.Common.{length}
use Rattle.kat_delta_script.proofs.counts.+raise_each.Given as goal

abbrev pub decreases-raise_each : goal.decreases-raise_each
decreases-raise_each l = length l.counts.now
