use Rattle.std.proofs.Common.{length}
use Rattle.kat_rules.proofs.rules.+have_effects.Given as goal

abbrev pub decreases-have_effects : goal.decreases-have_effects
decreases-have_effects l = length l.components.now
