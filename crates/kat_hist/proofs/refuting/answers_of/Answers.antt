use Rattle.std.proofs.Common.{List, [], ◌∷◌, ◌++◌, get_or, map, subst, sym, take}
use Rattle.kat_num.specs.declared.values.Value.{Value}
use Rattle.kat_histories.specs.Orders.{orders_of}
use Rattle.kat_histories.specs.Places.{ordered}
use Rattle.kat_hist.specs.Trials.{Gathers}
use Rattle.kat_type.specs.Types.{type_form}
use Rattle.kat_hist.proofs.Gathering.{gathered_off, gathers_none, tells_all}
use Rattle.kat_hist.proofs.refuting.answers_of.Goals as goal

pub loop-order-init : goal.loop-order-init
loop-order-init c =
    subst (λ (l : List Value). Gathers (type_form c.args.ty.now) c.args.asks.now [] l) (sym c.in_ok-answers.ensures.items) (gathers_none (type_form c.args.ty.now) c.args.asks.now)

pub returns-then-not-branch : goal.returns-then-not-branch
returns-then-not-branch c =
    let items = c.orders_of-order-items.result.now in
    let i = c.loop-order.order-index in
    tells_all (type_form c.args.ty.now) c.args.asks.now c.args.ones.now items (orders_of c.args.ones.now) i [] c.loop-order-test.true c.orders_of-order-items.ensures.orders
    (gathered_off (type_form c.args.ty.now) c.args.asks.now (map (ordered c.args.ones.now) (take i items) ++ ordered c.args.ones.now (get_or items i []) ∷ []) c.gather.new.answers.items
    c.in_ok-gather.field-0 c.if-not-branch.true (c.in_ok-gather.ensures (map (ordered c.args.ones.now) (take i items)) c.loop-order.invariant))
