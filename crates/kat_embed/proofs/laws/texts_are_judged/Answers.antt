use Rattle.kat_embed.proofs.Judging.{accepted_apart, refused_once, texts_judged}
use Rattle.kat_embed.proofs.laws.texts_are_judged.Goals as goal

pub returns-clause-judged : goal.returns-clause-judged
returns-clause-judged c = texts_judged

pub returns-clause-apart : goal.returns-clause-apart
returns-clause-apart c = accepted_apart

pub returns-clause-once : goal.returns-clause-once
returns-clause-once c = refused_once
