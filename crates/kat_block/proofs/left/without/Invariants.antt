use Rattle.std.proofs.Common.{◌≡◌, ◌++◌, drop}
use Rattle.kat_block.specs.Left.{without}
use Rattle.kat_block.proofs.left.without.Given as goal

abbrev pub invariant-loop-n : goal.invariant-loop-n
invariant-loop-n l = l.others.items ++ without l.number (drop l.n-index l.numbers) ≡ without l.number l.numbers
