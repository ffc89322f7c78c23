use Rattle.kat_refute.proofs.Facts.{facts_fail}
use Rattle.kat_refute.proofs.refuted_facts_fail.Goals as goal

pub returns : goal.returns
returns c = facts_fail
