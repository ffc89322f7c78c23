use Rattle.kat_num.proofs.Arguments.{value_text-is_text}
use Rattle.kat_num.proofs.laws.printed_is_read.Goals as goal

pub returns-clause-again : goal.returns-clause-again
returns-clause-again c = value_text-is_text
