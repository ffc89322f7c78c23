use Rattle.kat_grammar.proofs.Texted.{refusal_once, text_once, text_or_refused}
use Rattle.kat_grammar.proofs.laws.at_most_one_judgement.Goals as goal

pub returns-clause-text : goal.returns-clause-text
returns-clause-text c = text_once

pub returns-clause-refusal : goal.returns-clause-refusal
returns-clause-refusal c = refusal_once

pub returns-clause-apart : goal.returns-clause-apart
returns-clause-apart c = text_or_refused
