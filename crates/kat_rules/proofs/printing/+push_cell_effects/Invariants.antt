use Rattle.std.proofs.Common.{length}
use Rattle.kat_rules.proofs.printing.+push_cell_effects.Given as goal

abbrev pub decreases-push_cell_effects : goal.decreases-push_cell_effects
decreases-push_cell_effects l = length l.effects.now
