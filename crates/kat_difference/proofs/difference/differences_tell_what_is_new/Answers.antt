use Rattle.kat_difference.proofs.Serving.{tells_nothing}
use Rattle.kat_difference.proofs.difference.differences_tell_what_is_new.Goals as goal

pub returns : goal.returns
returns g c = tells_nothing g.met.L.Lattice.laws g.L.Difference.exact
