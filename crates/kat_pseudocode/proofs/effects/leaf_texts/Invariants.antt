use Rattle.std.proofs.Common.{◌≡◌, map, take}
use Rattle.kat_pseudocode.specs.Effects.{leaf_text}
use Rattle.kat_pseudocode.proofs.effects.leaf_texts.Given as goal

abbrev pub invariant-loop-leaf : goal.invariant-loop-leaf
invariant-loop-leaf l = l.texts.items ≡ map (leaf_text l.params) (take l.leaf-index l.leaves)
