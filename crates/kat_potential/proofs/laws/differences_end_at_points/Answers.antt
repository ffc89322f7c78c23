use Rattle.kat_potential.proofs.Ends.{differences_end_at_points}
use Rattle.kat_potential.proofs.laws.differences_end_at_points.Goals as goal

pub returns : goal.returns
returns c = differences_end_at_points
