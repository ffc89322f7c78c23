use Rattle.std.proofs.Common.{length}
use Rattle.kat_replica.proofs.delivering.+join_cells.Given as goal

abbrev pub decreases-join_cells : goal.decreases-join_cells
decreases-join_cells l = length l.parts.now
