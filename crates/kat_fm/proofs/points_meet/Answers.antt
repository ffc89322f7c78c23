use Rattle.kat_fm.proofs.PointsMeet.{points_meet}
use Rattle.kat_fm.proofs.points_meet.Goals as goal

pub returns : goal.returns
returns c = points_meet
