use Rattle.kat_delta_script.proofs.Judging.{script_once, refusal_once, script_or_refused}
use Rattle.kat_delta_script.proofs.laws.at_most_one_judgement.Goals as goal

pub returns-clause-script : goal.returns-clause-script
returns-clause-script c = script_once

pub returns-clause-refusal : goal.returns-clause-refusal
returns-clause-refusal c = refusal_once

pub returns-clause-apart : goal.returns-clause-apart
returns-clause-apart c = script_or_refused
