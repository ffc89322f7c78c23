use Rattle.kat_seq.proofs.Sorting.{runs_go_on}
use Rattle.kat_seq.proofs.laws.runs_go_on.Goals as goal

pub returns : goal.returns
returns c = runs_go_on
