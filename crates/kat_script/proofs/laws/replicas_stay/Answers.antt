use Rattle.kat_script.proofs.Standing.{replicas_there}
use Rattle.kat_script.proofs.laws.replicas_stay.Goals as goal

pub returns : goal.returns
returns c = replicas_there
