use Rattle.std.proofs.Common.{map, take}
use Rattle.kat_histories.specs.Places.{ordered}
use Rattle.kat_hist.specs.Trials.{Gathers}
use Rattle.kat_type.specs.Types.{type_form}
use Rattle.kat_hist.proofs.refuting.answers_of.Given as goal

abbrev pub invariant-loop-order : goal.invariant-loop-order
invariant-loop-order l = Gathers (type_form l.ty) l.asks (map (ordered l.ones) (take l.order-index l.order-items)) l.answers.items
