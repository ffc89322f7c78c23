use Rattle.kat_audit.proofs.Determining.{confirmed_read}
use Rattle.kat_audit.proofs.laws.confirmed_reports_are_read.Goals as goal

pub returns : goal.returns
returns c = confirmed_read
