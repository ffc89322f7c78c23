use Rattle.kat_picture.specs.Drawing.{lane_svg}
use Rattle.kat_picture.proofs.Steps.{one_more}
use Rattle.kat_picture.proofs.drawing.push_lanes.Goals as goal

pub loop-number-preserved : goal.loop-number-preserved
loop-number-preserved c =
    one_more (lane_svg c.args.width c.args.height) c.loop-number.number c.args.into.now.items c.loop-number.into.items c.push_lane.new.into.items
    c.loop-number.invariant c.in_ok-push_lane.ensures
