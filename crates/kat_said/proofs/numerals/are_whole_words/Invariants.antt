use Rattle.std.proofs.Common.{All, length}
use Rattle.kat_said.specs.Guesses.{IsWhole, words}
use Rattle.kat_said.proofs.numerals.are_whole_words.Given as goal

abbrev pub invariant-words : goal.invariant-words
invariant-words l = record {
  forth : All IsWhole (words l.left) → All IsWhole (words l.fn.bytes);
  back : All IsWhole (words l.fn.bytes) → All IsWhole (words l.left);
}

abbrev pub decreases-words : goal.decreases-words
decreases-words l = length l.left
