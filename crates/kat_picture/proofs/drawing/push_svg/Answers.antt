use Rattle.kat_picture.proofs.Steps.{svg_is}
use Rattle.kat_picture.proofs.drawing.push_svg.Goals as goal

pub returns : goal.returns
returns c =
    svg_is c.args.picture.now c.lane_width-width.result c.picture_height-height.result c.as_slice-events.result.now c.lane_width-width.ensures.width c.picture_height-height.ensures
    c.as_slice-events.ensures c.push_svg_at.result c.args.into.now.items c.push_svg_at.new.into.items c.push_svg_at.ensures
