use Rattle.kat_shape.proofs.ByLeaves.{joins_leaf_by_leaf}
use Rattle.kat_shape.proofs.laws.joins_leaf_by_leaf.Goals as goal

pub returns : goal.returns
returns c = joins_leaf_by_leaf
