use Rattle.kat_cli.proofs.node_commands.answer.Goals as goal

pub returns-in-Ok-clause-prints : goal.returns-in-Ok-clause-prints
returns-in-Ok-clause-prints g c = rw c.in-Ok.ensures at (rw c.deref.ensures.value at c.print.ensures.prints)
