use Rattle.std.proofs.Common.{◌≡◌, ◌++◌, take}
use Rattle.kat_picture.specs.Drawing.{labels}
use Rattle.kat_picture.proofs.drawing.push_labels.Given as goal

abbrev pub invariant-loop-event : goal.invariant-loop-event
invariant-loop-event l = l.into.items ≡ l.fn.into.items ++ labels l.width (take l.event-index l.events)
