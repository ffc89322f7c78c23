use Rattle.kat_clause.proofs.Laws.{least}
use Rattle.kat_clause.proofs.derived_is_least.Goals as goal

pub returns : goal.returns
returns c = least
