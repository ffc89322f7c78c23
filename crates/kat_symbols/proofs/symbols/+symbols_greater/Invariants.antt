use Rattle.std.proofs.Common.{length}
use Rattle.kat_symbols.proofs.symbols.+symbols_greater.Given as goal

abbrev pub decreases-symbols_greater : goal.decreases-symbols_greater
decreases-symbols_greater l = length l.pairs.now
