use Rattle.std.proofs.Common.{length}
use Rattle.kat_prove.proofs.trials.+later_place.Given as goal

abbrev pub decreases-later_place : goal.decreases-later_place
decreases-later_place l = length l.ops.now
