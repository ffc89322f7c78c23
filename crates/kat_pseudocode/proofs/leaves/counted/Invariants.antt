use Rattle.std.proofs.Common.{◌≡◌, ◌+◌, ◌≤◌, length}
use Rattle.kat_pseudocode.specs.Leaves.{counted}
use Rattle.kat_pseudocode.proofs.leaves.counted.Given as goal

abbrev pub invariant-words : goal.invariant-words
invariant-words l = (l.count + counted l.word l.rest ≡ counted l.word l.fn.words) × (l.count + length l.rest ≤ length l.fn.words)

abbrev pub decreases-words : goal.decreases-words
decreases-words l = length l.rest
