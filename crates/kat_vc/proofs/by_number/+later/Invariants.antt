use Rattle.std.proofs.Common.{length}
use Rattle.kat_vc.proofs.by_number.+later.Given as goal

abbrev pub decreases-later : goal.decreases-later
decreases-later l = length l.ops.now
