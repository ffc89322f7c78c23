use Rattle.std.proofs.Common.{length}
use Rattle.kat_machine.proofs.ascent.+has_given.Given as goal

abbrev pub decreases-has_given : goal.decreases-has_given
decreases-has_given l = length l.tokens.now
