use Rattle.kat_check.proofs.Migrating.{migrated_accepted}
use Rattle.kat_check.proofs.laws.migrated_files_are_accepted.Goals as goal

pub returns : goal.returns
returns c = migrated_accepted
