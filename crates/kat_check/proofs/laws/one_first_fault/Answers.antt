use Rattle.kat_check.proofs.Faults.{one_condition, one_line}
use Rattle.kat_check.proofs.laws.one_first_fault.Goals as goal

pub returns-clause-condition : goal.returns-clause-condition
returns-clause-condition c = one_condition

pub returns-clause-line : goal.returns-clause-line
returns-clause-line c = one_line
