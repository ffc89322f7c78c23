use Rattle.kat_type_file.proofs.Judgements.{every_type_file}
use Rattle.kat_type_file.proofs.laws.every_type_file_is_judged.Goals as goal

pub returns : goal.returns
returns c = every_type_file
