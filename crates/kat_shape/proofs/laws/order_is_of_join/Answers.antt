use Rattle.kat_shape.proofs.ChainOrders.{order_is_of_join}
use Rattle.kat_shape.proofs.laws.order_is_of_join.Goals as goal

pub returns : goal.returns
returns c = order_is_of_join
