use Rattle.kat_cli.proofs.Answered.{answers_as_files_say}
use Rattle.kat_cli.proofs.laws.run_answers_sequentially.Goals as goal

pub returns : goal.returns
returns c = answers_as_files_say
