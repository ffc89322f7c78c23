use Rattle.std.proofs.Common.{ap}
use Rattle.kat_points.specs.Answers.{point_form}
use Rattle.kat_said.specs.Sayings.{said_form}
use Rattle.kat_audit.proofs.blocks.dropped_place.Goals as goal

pub returns-in-Drop : goal.returns-in-Drop
returns-in-Drop c = (point_form c.in-Drop.point, ap said_form c.in-Drop.is)
