use Rattle.std.proofs.Common.{◌≡◌, ◌++◌, length}
use Rattle.kat_pseudocode.specs.Leaves.{distinct, distinct_from}
use Rattle.kat_pseudocode.proofs.leaves.distinct.Given as goal

abbrev pub invariant-words : goal.invariant-words
invariant-words l = l.names.items ++ distinct_from l.words (length l.names.items) l.rest ≡ distinct l.words

abbrev pub decreases-words : goal.decreases-words
decreases-words l = length l.rest
