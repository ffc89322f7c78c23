use Rattle.std.proofs.Common.{◌≡◌, ◌++◌, length, map}
use Rattle.kat_said.specs.Guesses.{whole_in, words}
use Rattle.kat_said.proofs.cutting.wholes.Given as goal

abbrev pub invariant-words : goal.invariant-words
invariant-words l = map whole_in (words l.fn.bytes) ≡ l.found.items ++ map whole_in (words l.left)

abbrev pub decreases-words : goal.decreases-words
decreases-words l = length l.left
