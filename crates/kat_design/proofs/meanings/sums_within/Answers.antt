use Rattle.kat_design.proofs.Tallying.{sums_within}
use Rattle.kat_design.proofs.meanings.sums_within.Goals as goal

pub returns : goal.returns
returns c = sums_within
