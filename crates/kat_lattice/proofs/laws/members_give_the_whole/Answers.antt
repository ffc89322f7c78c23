use Rattle.kat_lattice.proofs.Whole.{members_give_the_whole}
use Rattle.kat_lattice.proofs.laws.members_give_the_whole.Goals as goal

pub returns : goal.returns
returns g c = members_give_the_whole g.met.L.Lattice.laws
