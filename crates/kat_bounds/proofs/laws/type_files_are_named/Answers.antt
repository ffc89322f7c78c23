use Rattle.kat_bounds.proofs.Written.{file_named}
use Rattle.kat_bounds.proofs.laws.type_files_are_named.Goals as goal

pub returns : goal.returns
returns c = file_named
