use Rattle.kat_search_laws.proofs.Confirming.{reports_are_confirmed}
use Rattle.kat_search_laws.proofs.Steps.{confirmed_are_reports}
use Rattle.kat_search_laws.proofs.report_laws.reports_are_confirmed.Goals as goal

pub returns-clause-only : goal.returns-clause-only
returns-clause-only c = confirmed_are_reports

pub returns-clause-where_shown : goal.returns-clause-where_shown
returns-clause-where_shown c = reports_are_confirmed c.histories_fit.ensures
