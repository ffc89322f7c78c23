use Rattle.kat_world.proofs.Fitting.{operations_fit, asks_fit}
use Rattle.kat_world.proofs.laws.judged_scripts_fit_types.Goals as goal

pub returns-clause-operations : goal.returns-clause-operations
returns-clause-operations c = operations_fit

pub returns-clause-asks : goal.returns-clause-asks
returns-clause-asks c = asks_fit
