use Rattle.std.proofs.Common.{length}
use Rattle.kat_world.proofs.times.+raise.Given as goal

abbrev pub decreases-raise : goal.decreases-raise
decreases-raise l = length l.times.now
