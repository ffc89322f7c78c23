use Rattle.std.proofs.Common.{◌≡◌, ◌++◌, take}
use Rattle.kat_picture.specs.Drawing.{shapes}
use Rattle.kat_picture.proofs.drawing.push_shapes.Given as goal

abbrev pub invariant-loop-event : goal.invariant-loop-event
invariant-loop-event l = l.into.items ≡ l.fn.into.items ++ shapes l.width (take l.event-index l.events)
