use Rattle.std.proofs.Common.{subst}
use Rattle.kat_lattice.specs.Maps.{IsMap}
use Rattle.kat_lattice.proofs.Readings.{goes_at_each_key}
use Rattle.kat_lattice.proofs.grow_map.GrowMap.goes_at.Goals as goal

pub returns : goal.returns
returns g c =
    goes_at_each_key g.met.L.Lattice.laws c.args.self.now (subst (IsMap g.K.Ord.cmp g.L.Lattice.kin g.L.Lattice.joined) c.self.view_is c.self.invariant) c.args.key.now c.args.other.now c.requires
