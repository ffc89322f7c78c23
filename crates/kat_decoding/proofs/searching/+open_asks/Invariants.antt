use Rattle.std.proofs.Common.{length}
use Rattle.kat_decoding.proofs.searching.+open_asks.Given as goal

abbrev pub decreases-open_asks : goal.decreases-open_asks
decreases-open_asks l = length l.wants.now
