use Rattle.std.proofs.Common.{◌≡◌, false, map, take}
use Rattle.std.specs.List.{list_any}
use Rattle.kat_design.specs.Designs.{design_form}
use Rattle.kat_histories.specs.Places.{ordered}
use Rattle.kat_hist.specs.Arranging.{tells_apart}
use Rattle.kat_type.specs.Types.{type_form}
use Rattle.kat_hist.proofs.arrangements.some_order_tells.Given as goal

abbrev pub invariant-loop-order : goal.invariant-loop-order
invariant-loop-order l =
    list_any (tells_apart (type_form l.ty) (design_form l.design) l.state.parts l.asks) (map (ordered l.ones) (take l.order-index l.order-items)) ≡ false
