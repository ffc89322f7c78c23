use Rattle.kat_histories.proofs.Fitted.{complete}
use Rattle.kat_histories.proofs.laws.histories_are_complete.Goals as goal

pub returns : goal.returns
returns c = complete
