use Rattle.kat_cli.proofs.Ending.{prints_end}
use Rattle.kat_cli.proofs.printing.print.Goals as goal

pub returns-in-Ok-clause-prints : goal.returns-in-Ok-clause-prints
returns-in-Ok-clause-prints g c = prints_end c.args.text.now c.args.end _ c.requires c.in-Ok.ensures.ok
