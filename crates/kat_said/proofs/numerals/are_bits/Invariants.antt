use Rattle.std.proofs.Common.{All, length}
use Rattle.kat_said.specs.Guesses.{IsBit, words}
use Rattle.kat_said.proofs.numerals.are_bits.Given as goal

abbrev pub invariant-words : goal.invariant-words
invariant-words l = record {
  forth : All IsBit (words l.left) → All IsBit (words l.fn.bytes);
  back : All IsBit (words l.fn.bytes) → All IsBit (words l.left);
}

abbrev pub decreases-words : goal.decreases-words
decreases-words l = length l.left
