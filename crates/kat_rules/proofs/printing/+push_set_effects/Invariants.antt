use Rattle.std.proofs.Common.{length}
use Rattle.kat_rules.proofs.printing.+push_set_effects.Given as goal

abbrev pub decreases-push_set_effects : goal.decreases-push_set_effects
decreases-push_set_effects l = length l.effects.now
