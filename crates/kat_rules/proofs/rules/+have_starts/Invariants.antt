use Rattle.std.proofs.Common.{length}
use Rattle.kat_rules.proofs.rules.+have_starts.Given as goal

abbrev pub decreases-have_starts : goal.decreases-have_starts
decreases-have_starts l = length l.components.now
