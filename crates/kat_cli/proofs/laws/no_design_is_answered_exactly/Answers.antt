use Rattle.kat_cli.proofs.Found.{none_called, none_exactly}
use Rattle.kat_cli.proofs.laws.no_design_is_answered_exactly.Goals as goal

pub returns-clause-ended : goal.returns-clause-ended
returns-clause-ended c = none_exactly

pub returns-clause-called : goal.returns-clause-called
returns-clause-called c = none_called
