use Rattle.kat_design.proofs.Together.{all_mean}
use Rattle.kat_design.proofs.meanings.all_mean.Goals as goal

pub returns : goal.returns
returns g c = λ ms are. all_mean g.L.Lattice.kin ms are
