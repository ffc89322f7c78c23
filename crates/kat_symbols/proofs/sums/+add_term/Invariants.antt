use Rattle.std.proofs.Common.{length}
use Rattle.kat_symbols.proofs.sums.+add_term.Given as goal

abbrev pub decreases-add_term : goal.decreases-add_term
decreases-add_term l = length l.rest.now
