use Rattle.kat_design.proofs.KeyedMean.{keyed_mean}
use Rattle.kat_design.proofs.meanings.keyed_mean.Goals as goal

pub returns : goal.returns
returns g c = λ t m read is means. keyed_mean g.T.Lattice.kin g.S.Lattice.kin t m read is means
