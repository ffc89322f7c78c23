use Rattle.std.proofs.Common.{length}
use Rattle.kat_rules.proofs.costs.+total_cost.Given as goal

abbrev pub decreases-total_cost : goal.decreases-total_cost
decreases-total_cost l = length l.tokens.now
