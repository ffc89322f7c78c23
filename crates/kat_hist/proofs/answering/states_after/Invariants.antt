use Rattle.std.proofs.Common.{◌≡◌, ◌^◌, List, map, take}
use Rattle.std.specs.Prelude.{All}
use Rattle.kat_expr.specs.Limits.{IsSlotAtMost}
use Rattle.kat_expr.specs.declared.expressions.Slot.{Slot}
use Rattle.kat_histories.specs.Places.{ordered}
use Rattle.kat_hist.specs.Arranging.{states_of}
use Rattle.kat_type.specs.Types.{type_form}
use Rattle.kat_hist.proofs.answering.states_after.Given as goal

abbrev pub invariant-loop-order : goal.invariant-loop-order
invariant-loop-order l =
    (l.states.items ≡ states_of (type_form l.ty) (map (ordered l.ones) (take l.order-index l.order-items))) × All (λ (state : List Slot). All (IsSlotAtMost (2 ^ 100)) state) l.states.items
