use Rattle.std.proofs.Common.{length}
use Rattle.kat_rules.proofs.printing.+push_tallies_effects.Given as goal

abbrev pub decreases-push_tallies_effects : goal.decreases-push_tallies_effects
decreases-push_tallies_effects l = length l.effects.now
