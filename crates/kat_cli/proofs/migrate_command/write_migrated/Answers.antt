use Rattle.std.proofs.Common.{inr, refl}
use Rattle.kat_cli.proofs.migrate_command.write_migrated.Goals as goal

pub returns-in-Err-clause-writes : goal.returns-in-Err-clause-writes
returns-in-Err-clause-writes g c = inr (inr (refl, refl))
