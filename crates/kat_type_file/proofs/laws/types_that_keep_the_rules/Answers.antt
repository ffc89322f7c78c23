use Rattle.kat_type_file.proofs.Depths.{text_as, written_of}
use Rattle.kat_type_file.proofs.Keeping.{keeps_rules, not_refused}
use Rattle.kat_type_file.proofs.laws.types_that_keep_the_rules.Goals as goal

pub returns-clause-keeps : goal.returns-clause-keeps
returns-clause-keeps c = keeps_rules

pub returns-clause-accepted : goal.returns-clause-accepted
returns-clause-accepted c = not_refused

pub returns-clause-written : goal.returns-clause-written
returns-clause-written c = written_of

pub returns-clause-texts : goal.returns-clause-texts
returns-clause-texts c = text_as
