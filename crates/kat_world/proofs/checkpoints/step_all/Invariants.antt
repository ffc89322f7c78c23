use Rattle.std.proofs.Common.{◌≡◌, ◌-◌, length, take}
use Rattle.kat_seq.specs.States.{started, stepped_by}
use Rattle.kat_type.specs.Types.{type_form}
use Rattle.kat_world.specs.Tracked.{known_of}
use Rattle.kat_world.proofs.checkpoints.step_all.Given as goal

abbrev pub invariant-loop-at : goal.invariant-loop-at
invariant-loop-at l = l.state.items ≡ stepped_by (type_form l.ty) (started (type_form l.ty)) (known_of l.latest (take l.at l.order))

abbrev pub decreases-loop-at : goal.decreases-loop-at
decreases-loop-at l = length l.order - l.at
