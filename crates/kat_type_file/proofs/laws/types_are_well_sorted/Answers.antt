use Rattle.kat_type_file.proofs.Accepted.{well_sorted}
use Rattle.kat_type_file.proofs.Limiting.{file_sorted}
use Rattle.kat_type_file.proofs.laws.types_are_well_sorted.Goals as goal

pub returns-clause-phrases : goal.returns-clause-phrases
returns-clause-phrases c = well_sorted

pub returns-clause-files : goal.returns-clause-files
returns-clause-files c = file_sorted
