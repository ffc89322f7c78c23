use Rattle.kat_type_file.proofs.Judgements.{one_refusal, one_type, type_or_refused}
use Rattle.kat_type_file.proofs.laws.at_most_one_judgement.Goals as goal

pub returns-clause-says : goal.returns-clause-says
returns-clause-says c = one_type

pub returns-clause-refusal : goal.returns-clause-refusal
returns-clause-refusal c = one_refusal

pub returns-clause-apart : goal.returns-clause-apart
returns-clause-apart c = type_or_refused
