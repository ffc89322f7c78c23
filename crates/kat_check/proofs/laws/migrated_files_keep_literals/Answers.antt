use Rattle.kat_check.proofs.Migrating.{migrated_nonzero}
use Rattle.kat_check.proofs.laws.migrated_files_keep_literals.Goals as goal

pub returns : goal.returns
returns c = migrated_nonzero
