use Rattle.kat_refute.proofs.Facts.{points_stay_open, facts_stay_open}
use Rattle.kat_refute.proofs.points_stay_open.Goals as goal

pub returns : goal.returns
returns c = record { atoms = points_stay_open; forms = facts_stay_open }
