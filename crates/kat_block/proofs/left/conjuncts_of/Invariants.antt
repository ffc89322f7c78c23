use Rattle.std.proofs.Common.{◌≡◌, ◌++◌, drop}
use Rattle.kat_block.specs.Left.{conjuncts_of}
use Rattle.kat_block.proofs.left.conjuncts_of.Given as goal

abbrev pub invariant-loop-number : goal.invariant-loop-number
invariant-loop-number l = l.conjuncts.items ++ conjuncts_of l.candidates (drop l.number-index l.numbers) ≡ conjuncts_of l.candidates l.numbers
