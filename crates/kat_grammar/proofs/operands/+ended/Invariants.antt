use Rattle.std.specs.Prelude.{length}
use Rattle.kat_grammar.proofs.operands.+ended.Given as goal

abbrev pub decreases-ended : goal.decreases-ended
decreases-ended l = length l.parts.now.items
