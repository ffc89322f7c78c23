use Rattle.std.proofs.Common.{length}
use Rattle.kat_rules.proofs.rules.+has_some.Given as goal

abbrev pub decreases-has_some : goal.decreases-has_some
decreases-has_some g l = length l.effects.now
