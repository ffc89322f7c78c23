use Rattle.kat_cli.proofs.Once.{judging}
use Rattle.kat_cli.proofs.laws.every_call_is_judged.Goals as goal

pub returns-clause-judged : goal.returns-clause-judged
returns-clause-judged c = λ command texts fits. (judging command).total texts fits

pub returns-clause-ended : goal.returns-clause-ended
returns-clause-ended c = λ command texts inputs told ranges accepted. (judging command).ended texts inputs told ranges accepted
