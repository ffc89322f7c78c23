use Rattle.std.proofs.Common.{length}
use Rattle.kat_candidate.proofs.parts.+has_digit.Given as goal

abbrev pub decreases-has_digit : goal.decreases-has_digit
decreases-has_digit l = length l.ops.now
