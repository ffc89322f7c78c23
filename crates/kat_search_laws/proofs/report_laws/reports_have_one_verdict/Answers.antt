use Rattle.kat_search_laws.proofs.Determined.{one_audit}
use Rattle.kat_search_laws.proofs.report_laws.reports_have_one_verdict.Goals as goal

pub returns : goal.returns
returns c = one_audit
