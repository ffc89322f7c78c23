use Rattle.kat_design.proofs.Tallies.{tallies_mean}
use Rattle.kat_design.proofs.meanings.tallies_mean.Goals as goal

pub returns : goal.returns
returns c = tallies_mean
