use Rattle.std.proofs.Common.{length}
use Rattle.kat_rules.proofs.constants.+has_value.Given as goal

abbrev pub decreases-has_value : goal.decreases-has_value
decreases-has_value l = length l.values.now
