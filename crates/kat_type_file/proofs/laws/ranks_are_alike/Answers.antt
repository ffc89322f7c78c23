use Rattle.kat_type_file.proofs.Alike.{file_alike, kinds_alike}
use Rattle.kat_type_file.proofs.laws.ranks_are_alike.Goals as goal

pub returns-clause-stated : goal.returns-clause-stated
returns-clause-stated c = file_alike

pub returns-clause-compared : goal.returns-clause-compared
returns-clause-compared c = kinds_alike
