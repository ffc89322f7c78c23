use Rattle.kat_difference.proofs.Standing.{sharers_act}
use Rattle.kat_difference.proofs.laws.sharers_act.Goals as goal

pub returns : goal.returns
returns c = sharers_act c.designs_mean.ensures
