use Rattle.std.proofs.Common.{sym, subst}
use Rattle.kat_lattice.specs.Maps.{IsMap}
use Rattle.kat_lattice.specs.MapLaws.{map_joined, map_laws}
use Rattle.kat_lattice.proofs.Staged.{entries_of, start_of, map_staged, maps_mergeable}
use Rattle.kat_lattice.proofs.Undoing.{absorbed}
use Rattle.kat_lattice.proofs.grow_map.GrowMapLattice.stage.Goals as goal

pub returns-then-leq-clause-next : goal.returns-then-leq-clause-next
returns-then-leq-clause-next g c =
    absorbed (map_laws g.met.K.Ord.total g.met.L.Lattice.laws) c.args.self.now c.args.other.now c.requires (c.leq.ensures.0 c.if-leq.true)

pub union_of-requires : goal.union_of-requires
union_of-requires g c =
    maps_mergeable g.met.L.Lattice.laws c.args.self.now c.args.other.now c.deref.result.now c.deref-2.result.now c.requires (entries_of _ c.args.self.now c.deref.result.now c.deref.ensures.value c.self.view_is) (entries_of _ c.args.other.now c.deref-2.result.now c.deref-2.ensures.value c.other.view_is)

pub invariant_of-result : goal.invariant_of-result
invariant_of-result g c =
    subst (IsMap g.K.Ord.cmp g.L.Lattice.kin g.L.Lattice.joined) (sym (map_staged g.K.Ord.cmp g.L.Lattice.joined c.args.self.now c.args.other.now c.in_ok-start.start c.deref.result.now c.deref-2.result.now c.in_ok-entries.entries.items (start_of _ c.args.self.now c.in_ok-start.start c.in_ok-start.ensures c.self.view_is) (entries_of _ c.args.self.now c.deref.result.now c.deref.ensures.value c.self.view_is) (entries_of _ c.args.other.now c.deref-2.result.now c.deref-2.ensures.value c.other.view_is) c.in_ok-entries.ensures))
    (map_joined g.met.K.Ord.total g.met.L.Lattice.laws c.args.self.now c.args.other.now c.requires.left c.requires.right c.requires.starts)
