use Rattle.std.proofs.Common.{length}
use Rattle.kat_rules.proofs.rules.+is_ascending.Given as goal

abbrev pub decreases-is_ascending : goal.decreases-is_ascending
decreases-is_ascending l = length l.lists.now
