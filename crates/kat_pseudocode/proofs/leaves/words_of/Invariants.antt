use Rattle.std.proofs.Common.{◌≡◌, map, take}
use Rattle.kat_pseudocode.specs.Leaves.{leaf_word}
use Rattle.kat_pseudocode.proofs.leaves.words_of.Given as goal

abbrev pub invariant-loop-leaf : goal.invariant-loop-leaf
invariant-loop-leaf l = l.words.items ≡ map (leaf_word l.params) (take l.leaf-index l.leaves)
