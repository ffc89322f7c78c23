use Rattle.std.proofs.Common.{length}
use Rattle.kat_rows_logic.proofs.bounds.+ascend.Given as goal

abbrev pub decreases-ascend : goal.decreases-ascend
decreases-ascend l = length l.terms.now
