use Rattle.std.proofs.Common.{length}
use Rattle.kat_rules.proofs.printing.+push_leaves.Given as goal

abbrev pub decreases-push_leaves : goal.decreases-push_leaves
decreases-push_leaves l = length l.leaves.now
