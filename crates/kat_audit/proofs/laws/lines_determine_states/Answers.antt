use Rattle.kat_audit.proofs.Determining.{determined}
use Rattle.kat_audit.proofs.laws.lines_determine_states.Goals as goal

pub returns : goal.returns
returns c = determined
