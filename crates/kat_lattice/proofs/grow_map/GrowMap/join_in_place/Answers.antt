use Rattle.std.proofs.Common.{sym, subst, refl}
use Rattle.kat_join.specs.Chains.{kin_right}
use Rattle.kat_lattice.specs.Maps.{IsMap}
use Rattle.kat_lattice.specs.MapLaws.{map_joined, map_laws}
use Rattle.kat_lattice.proofs.Staged.{entries_of, start_of, map_staged, maps_mergeable}
use Rattle.kat_lattice.proofs.grow_map.GrowMap.join_in_place.Goals as goal

pub join_entries-requires-clause-own : goal.join_entries-requires-clause-own
join_entries-requires-clause-own g c =
    maps_mergeable g.met.L.Lattice.laws c.args.other.now c.args.other.now c.deref.result.now c.deref.result.now (kin_right (map_laws g.met.K.Ord.total g.met.L.Lattice.laws) c.args.self.now c.args.other.now c.requires.kin) (entries_of _ c.args.other.now c.deref.result.now c.deref.ensures.value c.other.view_is) (entries_of _ c.args.other.now c.deref.result.now c.deref.ensures.value c.other.view_is)

pub invariant_of-self : goal.invariant_of-self
invariant_of-self g c =
    subst (IsMap g.K.Ord.cmp g.L.Lattice.kin g.L.Lattice.joined) (sym (map_staged g.K.Ord.cmp g.L.Lattice.joined c.args.self.now c.args.other.now c.self.inside.start c.self.inside.entries.items c.deref.result.now c.join_entries.new.entries.items (start_of _ c.args.self.now c.self.inside.start refl c.self.view_is) (entries_of _ c.args.self.now c.self.inside.entries.items refl c.self.view_is) (entries_of _ c.args.other.now c.deref.result.now c.deref.ensures.value c.other.view_is) c.join_entries.ensures))
    (map_joined g.met.K.Ord.total g.met.L.Lattice.laws c.args.self.now c.args.other.now c.requires.kin.left c.requires.kin.right c.requires.kin.starts)
