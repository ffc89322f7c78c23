use Rattle.kat_design.proofs.Instances.{cells_mean}
use Rattle.kat_design.proofs.meanings.cells_mean.Goals as goal

pub returns : goal.returns
returns c = cells_mean
