use Rattle.std.proofs.Common.{[]}
use Rattle.kat_design.specs.Designs.{design_form}
use Rattle.kat_histories.specs.Orders.{orders_of}
use Rattle.kat_hist.specs.Arranging.{tells_apart}
use Rattle.kat_type.specs.Types.{type_form}
use Rattle.kat_hist.proofs.Found.{found_any}
use Rattle.kat_hist.proofs.arrangements.some_order_tells.Goals as goal

pub returns-then-branch : goal.returns-then-branch
returns-then-branch c =
    found_any (tells_apart (type_form c.args.ty.now) (design_form c.args.design.now) c.args.state.now.parts c.args.asks.now) c.args.ones.now c.orders_of-order-items.result.now
    (orders_of c.args.ones.now) c.loop-order.order-index [] c.in_ok-order_tells.field-0 c.loop-order-test.true c.orders_of-order-items.ensures.orders c.in_ok-order_tells.ensures c.if-branch.true
