use Rattle.kat_lattice.proofs.Whole.{wholes_join}
use Rattle.kat_lattice.proofs.laws.wholes_join.Goals as goal

pub returns : goal.returns
returns g c = wholes_join g.met.L.Lattice.laws
