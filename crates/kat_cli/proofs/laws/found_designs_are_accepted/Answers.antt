use Rattle.kat_cli.proofs.Found.{found_accepted, found_checked}
use Rattle.kat_cli.proofs.laws.found_designs_are_accepted.Goals as goal

pub returns-clause-accepted : goal.returns-clause-accepted
returns-clause-accepted c = found_accepted

pub returns-clause-checked : goal.returns-clause-checked
returns-clause-checked c = found_checked
