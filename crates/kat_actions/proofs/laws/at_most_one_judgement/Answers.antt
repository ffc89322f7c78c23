use Rattle.kat_actions.proofs.Judging.{calls_once, refusal_once, calls_or_refused}
use Rattle.kat_actions.proofs.laws.at_most_one_judgement.Goals as goal

pub returns-clause-calls : goal.returns-clause-calls
returns-clause-calls c = calls_once

pub returns-clause-refusal : goal.returns-clause-refusal
returns-clause-refusal c = refusal_once

pub returns-clause-apart : goal.returns-clause-apart
returns-clause-apart c = calls_or_refused
