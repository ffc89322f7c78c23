use Rattle.kat_design.proofs.Instances.{sets_mean}
use Rattle.kat_design.proofs.meanings.sets_mean.Goals as goal

pub returns : goal.returns
returns g c = λ tells key_of. sets_mean g.K.Ord.cmp g.met.K.Ord.total tells key_of
