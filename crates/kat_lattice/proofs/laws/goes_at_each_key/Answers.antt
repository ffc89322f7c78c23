use Rattle.kat_lattice.proofs.Readings.{goes_at_each_key}
use Rattle.kat_lattice.proofs.laws.goes_at_each_key.Goals as goal

pub returns : goal.returns
returns g c = goes_at_each_key g.met.L.Lattice.laws
