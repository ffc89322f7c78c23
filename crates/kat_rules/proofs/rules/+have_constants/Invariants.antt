use Rattle.std.proofs.Common.{length}
use Rattle.kat_rules.proofs.rules.+have_constants.Given as goal

abbrev pub decreases-have_constants : goal.decreases-have_constants
decreases-have_constants l = length l.asks.now
