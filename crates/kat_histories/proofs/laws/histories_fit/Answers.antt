use Rattle.kat_histories.proofs.Fitted.{histories_fit}
use Rattle.kat_histories.proofs.laws.histories_fit.Goals as goal

pub returns : goal.returns
returns c = histories_fit
