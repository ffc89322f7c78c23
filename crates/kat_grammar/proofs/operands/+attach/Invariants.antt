use Rattle.std.specs.Prelude.{length}
use Rattle.kat_grammar.proofs.operands.+attach.Given as goal

abbrev pub decreases-attach : goal.decreases-attach
decreases-attach l = length l.parts.now.items
