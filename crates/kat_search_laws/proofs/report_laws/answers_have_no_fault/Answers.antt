use Rattle.kat_search_laws.proofs.Confirming.{answers_are_reports, answers_have_no_fault}
use Rattle.kat_search_laws.proofs.report_laws.answers_have_no_fault.Goals as goal

pub returns-clause-reports : goal.returns-clause-reports
returns-clause-reports c = answers_are_reports

pub returns-clause-told : goal.returns-clause-told
returns-clause-told c = answers_have_no_fault c.histories_fit.ensures
