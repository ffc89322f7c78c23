use Rattle.std.proofs.Common.{◌≡◌, map, take}
use Rattle.kat_design.specs.Effects.{leaf_value}
use Rattle.kat_replica.proofs.effects.leaf_values.Given as goal

abbrev pub invariant-loop-leaf : goal.invariant-loop-leaf
invariant-loop-leaf l = l.values.items ≡ map (leaf_value l.done) (take l.leaf-index l.leaves)
