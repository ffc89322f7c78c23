use Rattle.kat_node_texts.proofs.Refusing.{file_apart, file_once, files_once}
use Rattle.kat_node_texts.proofs.laws.at_most_one_judgement.Goals as goal

pub returns-clause-files : goal.returns-clause-files
returns-clause-files c = files_once

pub returns-clause-refusal : goal.returns-clause-refusal
returns-clause-refusal c = file_once

pub returns-clause-apart : goal.returns-clause-apart
returns-clause-apart c = file_apart
