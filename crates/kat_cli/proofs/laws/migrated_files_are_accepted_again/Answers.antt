use Rattle.kat_cli.proofs.MigratedAgain.{migrated_again, migrated_checked}
use Rattle.kat_cli.proofs.laws.migrated_files_are_accepted_again.Goals as goal

pub returns-clause-accepted : goal.returns-clause-accepted
returns-clause-accepted c = migrated_again

pub returns-clause-checked : goal.returns-clause-checked
returns-clause-checked c = λ first second text status ended read small v. migrated_checked first second text status ended read small v
