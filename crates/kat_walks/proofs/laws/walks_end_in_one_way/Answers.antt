use Rattle.kat_walks.proofs.Outcomes.{one_outcome}
use Rattle.kat_walks.proofs.laws.walks_end_in_one_way.Goals as goal

pub returns : goal.returns
returns c = λ e numbers path left a b u v. one_outcome u v
