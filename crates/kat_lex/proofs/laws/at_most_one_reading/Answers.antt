use Rattle.kat_lex.proofs.Unique.{tokens_once, fault_once, not_both}
use Rattle.kat_lex.proofs.laws.at_most_one_reading.Goals as goal

pub returns-clause-tokens : goal.returns-clause-tokens
returns-clause-tokens c = tokens_once

pub returns-clause-fault : goal.returns-clause-fault
returns-clause-fault c = fault_once

pub returns-clause-apart : goal.returns-clause-apart
returns-clause-apart c = not_both
