use Rattle.kat_cli.proofs.Once.{faulty_apart, faulty_once, judging}
use Rattle.kat_cli.proofs.laws.one_fault.Goals as goal

pub returns-clause-once : goal.returns-clause-once
returns-clause-once c = λ command. faulty_once command (judging command)

pub returns-clause-apart : goal.returns-clause-apart
returns-clause-apart c = λ command. faulty_apart command (judging command)
