use Rattle.std.proofs.Common.{length}
use Rattle.kat_rules.proofs.printing.+push_components.Given as goal

abbrev pub decreases-push_components : goal.decreases-push_components
decreases-push_components l = length l.components.now
