use Rattle.std.proofs.Common.{length}
use Rattle.kat_walk.proofs.marks.+open_places.Given as goal

abbrev pub decreases-open_places : goal.decreases-open_places
decreases-open_places g l = length l.counts.now
