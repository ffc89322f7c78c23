use Rattle.kat_design.proofs.KeyedTallying.{keyed_tallies_mean}
use Rattle.kat_design.proofs.meanings.keyed_tallies_mean.Goals as goal

pub returns : goal.returns
returns g c = λ tells key_of weight. keyed_tallies_mean g.K.Ord.cmp g.met.K.Ord.total tells key_of weight
