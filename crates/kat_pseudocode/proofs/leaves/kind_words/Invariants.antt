use Rattle.std.proofs.Common.{◌≡◌, map, take}
use Rattle.kat_pseudocode.specs.Leaves.{held_word}
use Rattle.kat_pseudocode.proofs.leaves.kind_words.Given as goal

abbrev pub invariant-loop-kind : goal.invariant-loop-kind
invariant-loop-kind l = l.words.items ≡ map held_word (take l.kind-index l.kinds)
