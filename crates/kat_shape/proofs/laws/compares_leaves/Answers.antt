use Rattle.kat_shape.proofs.Chains.{compares_leaves}
use Rattle.kat_shape.proofs.laws.compares_leaves.Goals as goal

pub returns : goal.returns
returns c = compares_leaves
