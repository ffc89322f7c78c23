use Rattle.std.proofs.Common.{sym, subst}
use Rattle.kat_join.specs.Keyed.{IsAscending}
use Rattle.kat_join.specs.KeyedLaws.{ascending_union}
use Rattle.kat_lattice.specs.Sets.{first_one, keeps_first, set_laws}
use Rattle.kat_lattice.proofs.Undoing.{absorbed}
use Rattle.kat_lattice.proofs.grow_set.GrowSetLattice.stage.Goals as goal

pub returns-then-leq-clause-next : goal.returns-then-leq-clause-next
returns-then-leq-clause-next g c =
    absorbed (set_laws g.met.K.Ord.total) c.args.self.now c.args.other.now c.requires (c.leq.ensures.0 c.if-leq.true)

pub invariant_of-result : goal.invariant_of-result
invariant_of-result g c =
    subst (IsAscending g.K.Ord.cmp) (sym c.in_ok-keys.ensures) (ascending_union g.K.Ord.cmp first_one g.met.K.Ord.total (keeps_first g.K.Ord.cmp) c.deref.result.now c.deref-2.result.now (rw c.deref.ensures.value c.self.invariant))
