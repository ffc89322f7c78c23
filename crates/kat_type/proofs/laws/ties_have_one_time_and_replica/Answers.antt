use Rattle.kat_type.proofs.Arranging.{equal_is}
use Rattle.kat_type.proofs.laws.ties_have_one_time_and_replica.Goals as goal

pub returns : goal.returns
returns c = equal_is
