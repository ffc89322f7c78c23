use Rattle.kat_search_laws.proofs.Confirming.{reports_have_no_fault}
use Rattle.kat_search_laws.proofs.report_laws.reports_have_no_fault.Goals as goal

pub returns : goal.returns
returns c = reports_have_no_fault c.histories_fit.ensures
