use Rattle.kat_cli.proofs.AcceptedAnswers.{answers_as_type, is_inductive}
use Rattle.kat_cli.proofs.laws.accepted_files_are_inductive.Goals as goal

pub returns-clause-inductive : goal.returns-clause-inductive
returns-clause-inductive c = is_inductive

pub returns-clause-answers : goal.returns-clause-answers
returns-clause-answers c = answers_as_type
