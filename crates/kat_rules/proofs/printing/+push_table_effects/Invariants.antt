use Rattle.std.proofs.Common.{length}
use Rattle.kat_rules.proofs.printing.+push_table_effects.Given as goal

abbrev pub decreases-push_table_effects : goal.decreases-push_table_effects
decreases-push_table_effects l = length l.effects.now
