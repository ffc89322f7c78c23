use Rattle.kat_points.proofs.HeldPoints.{alike}
use Rattle.kat_points.proofs.laws.held_points_are_alike.Goals as goal

pub returns : goal.returns
returns c = alike
