use Rattle.std.proofs.Common.{◌≡◌, ◌++◌, length, map}
use Rattle.kat_said.specs.Guesses.{bit_in, words}
use Rattle.kat_said.proofs.cutting.bits.Given as goal

abbrev pub invariant-words : goal.invariant-words
invariant-words l = map bit_in (words l.fn.bytes) ≡ l.found.items ++ map bit_in (words l.left)

abbrev pub decreases-words : goal.decreases-words
decreases-words l = length l.left
