use Rattle.kat_design.proofs.KeyedMean.{wrapped_mean}
use Rattle.kat_design.proofs.meanings.wrapped_mean.Goals as goal

pub returns : goal.returns
returns g c = λ p m wrap is means. wrapped_mean g.P.Lattice.kin g.S.Lattice.kin p m wrap is means
