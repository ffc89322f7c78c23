use Rattle.kat_cli.proofs.AuditedExactly.{narrow_called, shown_called, written_called}
use Rattle.kat_cli.proofs.laws.reports_of_searches_are_confirmed.Goals as goal

pub returns-clause-shown : goal.returns-clause-shown
returns-clause-shown c = λ options first report ty status is few small shown v. shown_called c.files_have_words.ensures c.reports_are_confirmed.ensures.where_shown options first report ty status is few small shown v

pub returns-clause-told : goal.returns-clause-told
returns-clause-told c = λ options first report ty status is few small narrow v. narrow_called c.files_have_words.ensures c.reports_have_no_fault.ensures options first report ty status is few small narrow v

pub returns-clause-written : goal.returns-clause-written
returns-clause-written c = λ options first report end status r not_done small v. written_called c.files_have_words.ensures c.reports_have_no_fault.ensures options first report end status r not_done small v
