use Rattle.std.proofs.lemmas.Result.{IfOk-weaker}
use Rattle.kat_words.proofs.Building.{program_more}
use Rattle.kat_words.proofs.program.with_command.Goals as goal

pub returns : goal.returns
returns c = IfOk-weaker c.subcommand.result _ _ (λ more adds. program_more c.args.program c.in_ok-command.command more _ _ c.in_ok-command.ensures adds) c.subcommand.ensures
