use Rattle.std.proofs.Common.{◌∙◌, ◌++◌, ℕ, ap}
use Rattle.kat_picture.specs.Drawing.{drawn, head_svg, lane_svg, picture_width}
use Rattle.kat_picture.specs.Lanes.{for_each}
use Rattle.kat_picture.proofs.Steps.{three_parts}
use Rattle.kat_picture.proofs.drawing.push_svg_at.Goals as goal

pub returns : goal.returns
returns c =
    three_parts c.push_drawn.result c.args.into.now.items (head_svg (picture_width c.args.width c.args.replicas) c.args.height)
    (for_each (lane_svg c.args.width c.args.height) c.args.replicas) (drawn c.args.width c.args.events.now) c.push_head.new.into.items c.push_lanes.new.into.items
    c.push_drawn.new.into.items
    (c.in_ok-push_head.ensures ∙ ap (λ (w : ℕ). c.args.into.now.items ++ head_svg w c.args.height) c.picture_width.ensures) c.in_ok-push_lanes.ensures c.push_drawn.ensures
