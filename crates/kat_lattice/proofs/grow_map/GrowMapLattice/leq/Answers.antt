use Rattle.kat_lattice.proofs.Staged.{entries_of, map_absorbed, maps_mergeable}
use Rattle.kat_lattice.proofs.grow_map.GrowMapLattice.leq.Goals as goal

pub is_part-requires : goal.is_part-requires
is_part-requires g c =
    maps_mergeable g.met.L.Lattice.laws c.args.self.now c.args.other.now c.deref.result.now c.deref-2.result.now c.requires (entries_of _ c.args.self.now c.deref.result.now c.deref.ensures.value c.self.view_is) (entries_of _ c.args.other.now c.deref-2.result.now c.deref-2.ensures.value c.other.view_is)

pub returns : goal.returns
returns g c =
    map_absorbed g.K.Ord.cmp g.L.Lattice.joined c.args.self.now c.args.other.now c.deref.result.now c.deref-2.result.now c.is_part.result c.requires.starts (entries_of _ c.args.self.now c.deref.result.now c.deref.ensures.value c.self.view_is) (entries_of _ c.args.other.now c.deref-2.result.now c.deref-2.ensures.value c.other.view_is) c.is_part.ensures
