use Rattle.kat_audit.proofs.Determining.{one_audit}
use Rattle.kat_audit.proofs.laws.reports_have_one_verdict.Goals as goal

pub returns : goal.returns
returns c = one_audit
