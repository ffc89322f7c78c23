use Rattle.kat_check.proofs.Judged.{file_judged}
use Rattle.kat_check.proofs.laws.every_file_is_judged.Goals as goal

pub returns : goal.returns
returns c = file_judged
