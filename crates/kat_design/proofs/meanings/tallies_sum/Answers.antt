use Rattle.kat_design.proofs.Reading.{tallies_sum}
use Rattle.kat_design.proofs.meanings.tallies_sum.Goals as goal

pub returns : goal.returns
returns c = tallies_sum
