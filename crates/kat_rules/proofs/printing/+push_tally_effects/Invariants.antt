use Rattle.std.proofs.Common.{length}
use Rattle.kat_rules.proofs.printing.+push_tally_effects.Given as goal

abbrev pub decreases-push_tally_effects : goal.decreases-push_tally_effects
decreases-push_tally_effects l = length l.effects.now
