use Rattle.std.proofs.Common.{length}
use Rattle.kat_decoding.proofs.asks.+stacked_asks.Given as goal

abbrev pub decreases-stacked_asks : goal.decreases-stacked_asks
decreases-stacked_asks l = length l.tokens.now
