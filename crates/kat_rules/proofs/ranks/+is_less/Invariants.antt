use Rattle.std.proofs.Common.{length}
use Rattle.kat_rules.proofs.ranks.+is_less.Given as goal

abbrev pub decreases-is_less : goal.decreases-is_less
decreases-is_less l = length l.left.now
