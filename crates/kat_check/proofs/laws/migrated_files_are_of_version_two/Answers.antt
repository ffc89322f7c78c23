use Rattle.kat_check.proofs.Migrating.{migrated_of_two}
use Rattle.kat_check.proofs.laws.migrated_files_are_of_version_two.Goals as goal

pub returns : goal.returns
returns c = migrated_of_two
