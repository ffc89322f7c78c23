use Rattle.kat_actions.proofs.Fitting.{calls_fit}
use Rattle.kat_actions.proofs.laws.calls_fit_signatures.Goals as goal

pub returns : goal.returns
returns c = calls_fit
