use Rattle.std.proofs.Common.{length}
use Rattle.kat_machine.proofs.usable.+has_parameter.Given as goal

abbrev pub decreases-has_parameter : goal.decreases-has_parameter
decreases-has_parameter l = length l.sorts.now
