use Rattle.std.proofs.Common.{◌≡◌, take}
use Rattle.kat_histories.specs.Places.{picked}
use Rattle.kat_seq.specs.States.{state_after}
use Rattle.kat_type.specs.Types.{type_form}
use Rattle.kat_hist.proofs.arrangements.state_after.Given as goal

abbrev pub invariant-loop-place : goal.invariant-loop-place
invariant-loop-place l = l.slots.items ≡ state_after (type_form l.ty) (picked l.ones (take l.place-index l.order))
