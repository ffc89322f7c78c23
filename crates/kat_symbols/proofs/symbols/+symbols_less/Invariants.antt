use Rattle.std.proofs.Common.{length}
use Rattle.kat_symbols.proofs.symbols.+symbols_less.Given as goal

abbrev pub decreases-symbols_less : goal.decreases-symbols_less
decreases-symbols_less l = length l.pairs.now
