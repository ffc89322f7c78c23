use Rattle.kat_design.proofs.Tallying.{sums_unite}
use Rattle.kat_design.proofs.meanings.sums_unite.Goals as goal

pub returns : goal.returns
returns c = sums_unite
