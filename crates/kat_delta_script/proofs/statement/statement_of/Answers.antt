use Rattle.std.proofs.Common.{◌∙◌}
use Rattle.kat_delta_script.proofs.Saying.{the_delta, the_plain}
use Rattle.kat_delta_script.proofs.statement.statement_of.Goals as goal

pub returns-in-Some : goal.returns-in-Some
returns-in-Some c = the_plain c.args.line.now c.in-Some.said (rw c.in-Some.is at c.in_ok-said.ensures.said).0

pub returns-in-None : goal.returns-in-None
returns-in-None c = the_delta c.args.line.now c.deref.result.now _ (c.deref.ensures.value ∙ c.in_ok-said.ensures.marks) (rw c.in-None.is at c.in_ok-said.ensures.said) c.delta_of.ensures
