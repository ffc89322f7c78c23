use Rattle.kat_shape.proofs.ChainOrders.{one_is_below}
use Rattle.kat_shape.proofs.laws.one_is_below.Goals as goal

pub returns : goal.returns
returns c = one_is_below
