use Rattle.kat_cli.proofs.Once.{refused_long, unread_long}
use Rattle.kat_cli.proofs.laws.first_file_too_long.Goals as goal

pub returns-clause-refused : goal.returns-clause-refused
returns-clause-refused c = refused_long

pub returns-clause-unread : goal.returns-clause-unread
returns-clause-unread c = unread_long
