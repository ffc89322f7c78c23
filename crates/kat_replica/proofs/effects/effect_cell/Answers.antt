use Rattle.std.proofs.Common.{map}
use Rattle.kat_design.specs.Effects.{leaf_value}
use Rattle.kat_shape.specs.Values.{shape_of}
use Rattle.kat_replica.proofs.Filled.{if_made}
use Rattle.kat_replica.proofs.effects.effect_cell.Goals as goal

pub returns : goal.returns
returns c =
    if_made c.with_leaves.result (shape_of c.args.like.now) (map (leaf_value c.args.done.now) c.args.leaves.now) c.in_ok-values.values.items
    c.in_ok-values.ensures c.requires.gives c.with_leaves.ensures.shape c.with_leaves.ensures.leaves
