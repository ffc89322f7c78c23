use Rattle.std.proofs.Common.{◌≡◌, ◌++◌}
use Rattle.kat_picture.specs.Drawing.{lane_svg}
use Rattle.kat_picture.specs.Lanes.{for_each}
use Rattle.kat_picture.proofs.drawing.push_lanes.Given as goal

abbrev pub invariant-loop-number : goal.invariant-loop-number
invariant-loop-number l = l.into.items ≡ l.fn.into.items ++ for_each (lane_svg l.width l.height) l.number
