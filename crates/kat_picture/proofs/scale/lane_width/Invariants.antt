use Rattle.std.proofs.Common.{◌≡◌, ◌≤◌, length}
use Rattle.kat_picture.specs.Drawing.{widest_from}
use Rattle.kat_picture.proofs.scale.lane_width.Given as goal

abbrev pub invariant-events : goal.invariant-events
invariant-events l = (widest_from l.widest l.rest ≡ widest_from 4 l.fn.events) × (l.widest ≤ 160)

abbrev pub decreases-events : goal.decreases-events
decreases-events l = length l.rest
