use Rattle.std.proofs.Common.{◌∙◌}
use Rattle.kat_lattice.specs.Maps.{IsMap}
use Rattle.kat_lattice.proofs.Entries.{value_here, value_absent}
use Rattle.kat_lattice.proofs.MapEdits.{kin_in_view, kin_along, started, above_start, map_inserted, joins_inserted, joins_nothing}
use Rattle.kat_lattice.proofs.Undoing.{map_replaced, joins_replaced, undoes_replaced, undoes_new, copied_place, in_place, in_gap}
use Rattle.kat_lattice.proofs.grow_map.GrowMap.join_at_step.Goals as goal

pub place_of-requires : goal.place_of-requires
place_of-requires g c = rw c.deref.ensures.value c.self.invariant.ascending

pub join-requires : goal.join-requires
join-requires g c =
    kin_along g.L.Lattice.kin c.in_ok-value-in-Ok.value _ c.args.other.now (c.in_ok-value-in-Ok.ensures ∙ (value_here g.met.K.Ord.total c.args.key c.self.inside.start c.self.inside.entries.items c.in-Ok.at c.index.result.now c.self.invariant.ascending (rw (← c.deref.ensures.value) c.in-Ok.ensures.at) c.index.ensures)) (kin_in_view g.K.Ord.cmp g.L.Lattice.kin (record { start = c.self.inside.start; entries = c.self.inside.entries.items }) c.args.self.now c.args.key c.args.other.now c.self.view_is c.requires)

pub invariant_of-self : goal.invariant_of-self
invariant_of-self g c = map_replaced g.met.K.Ord.total g.met.L.Lattice.laws (record { start = c.self.inside.start; entries = c.self.inside.entries.items }) c.args.key c.args.other.now c.in-Ok.at c.index_mut-entry.result.now c.join.new.self c.replace-was.new.dest c.self.invariant (rw (← c.deref.ensures.value) c.in-Ok.ensures.at) c.index_mut-entry.ensures.value (kin_along g.L.Lattice.kin c.index_mut-entry.result.now.1 _ c.args.other.now (value_here g.met.K.Ord.total c.args.key c.self.inside.start c.self.inside.entries.items c.in-Ok.at c.index_mut-entry.result.now c.self.invariant.ascending (rw (← c.deref.ensures.value) c.in-Ok.ensures.at) c.index_mut-entry.ensures.value) (kin_in_view g.K.Ord.cmp g.L.Lattice.kin (record { start = c.self.inside.start; entries = c.self.inside.entries.items }) c.args.self.now c.args.key c.args.other.now c.self.view_is c.requires)) (started g.L.Lattice.joined c.index_mut-entry.result.now.1 c.in_ok-value-in-Ok.value c.join.new.self c.args.other.now (copied_place c.self.inside.entries.items c.in-Ok.at c.index.result.now c.index_mut-entry.result.now c.in_ok-value-in-Ok.value (in_place c.self.inside.entries.items c.in-Ok.at c.args.key g.K.Ord.cmp (rw (← c.deref.ensures.value) c.in-Ok.ensures.at)) c.index.ensures c.index_mut-entry.ensures.value c.in_ok-value-in-Ok.ensures) c.in_ok-join-in-Ok.ensures.ok) c.replace-was.ensures.after

pub join-requires-in-Err : goal.join-requires-in-Err
join-requires-in-Err g c =
    kin_along g.L.Lattice.kin c.in_ok-value-in-Err.value _ c.args.other.now (c.in_ok-value-in-Err.ensures ∙ (value_absent g.met.K.Ord.total c.args.key c.self.inside.start c.self.inside.entries.items c.in-Err.at (rw (← c.deref.ensures.value) c.in-Err.ensures.gap))) (kin_in_view g.K.Ord.cmp g.L.Lattice.kin (record { start = c.self.inside.start; entries = c.self.inside.entries.items }) c.args.self.now c.args.key c.args.other.now c.self.view_is c.requires)

pub leq-requires : goal.leq-requires
leq-requires g c =
    above_start g.met.L.Lattice.laws c.self.inside.start c.join-in-Err.new.self c.args.other.now (kin_along g.L.Lattice.kin c.self.inside.start _ c.args.other.now (value_absent g.met.K.Ord.total c.args.key c.self.inside.start c.self.inside.entries.items c.in-Err.at (rw (← c.deref.ensures.value) c.in-Err.ensures.gap)) (kin_in_view g.K.Ord.cmp g.L.Lattice.kin (record { start = c.self.inside.start; entries = c.self.inside.entries.items }) c.args.self.now c.args.key c.args.other.now c.self.view_is c.requires)) (started g.L.Lattice.joined c.self.inside.start c.in_ok-value-in-Err.value c.join-in-Err.new.self c.args.other.now c.in_ok-value-in-Err.ensures c.in_ok-join-in-Err.ensures.ok)

pub returns-then-leq-clause-ok : goal.returns-then-leq-clause-ok
returns-then-leq-clause-ok g c =
    joins_nothing g.met.K.Ord.total g.met.L.Lattice.laws (record { start = c.self.inside.start; entries = c.self.inside.entries.items }) c.args.self.now c.args.key c.args.other.now c.join-in-Err.new.self c.in-Err.at c.leq.result c.self.view_is (rw (← c.deref.ensures.value) c.in-Err.ensures.gap) (kin_along g.L.Lattice.kin c.self.inside.start _ c.args.other.now (value_absent g.met.K.Ord.total c.args.key c.self.inside.start c.self.inside.entries.items c.in-Err.at (rw (← c.deref.ensures.value) c.in-Err.ensures.gap)) (kin_in_view g.K.Ord.cmp g.L.Lattice.kin (record { start = c.self.inside.start; entries = c.self.inside.entries.items }) c.args.self.now c.args.key c.args.other.now c.self.view_is c.requires)) (started g.L.Lattice.joined c.self.inside.start c.in_ok-value-in-Err.value c.join-in-Err.new.self c.args.other.now c.in_ok-value-in-Err.ensures c.in_ok-join-in-Err.ensures.ok) c.leq.ensures c.if-leq.true

pub invariant_of-self-in-Err : goal.invariant_of-self-in-Err
invariant_of-self-in-Err g c = map_inserted g.met.K.Ord.total g.met.L.Lattice.laws (record { start = c.self.inside.start; entries = c.self.inside.entries.items }) c.args.key c.args.other.now c.join-in-Err.new.self c.in-Err.at c.leq.result c.insert.new.self.items c.self.invariant (rw (← c.deref.ensures.value) c.in-Err.ensures.gap) (kin_along g.L.Lattice.kin c.self.inside.start _ c.args.other.now (value_absent g.met.K.Ord.total c.args.key c.self.inside.start c.self.inside.entries.items c.in-Err.at (rw (← c.deref.ensures.value) c.in-Err.ensures.gap)) (kin_in_view g.K.Ord.cmp g.L.Lattice.kin (record { start = c.self.inside.start; entries = c.self.inside.entries.items }) c.args.self.now c.args.key c.args.other.now c.self.view_is c.requires)) (started g.L.Lattice.joined c.self.inside.start c.in_ok-value-in-Err.value c.join-in-Err.new.self c.args.other.now c.in_ok-value-in-Err.ensures c.in_ok-join-in-Err.ensures.ok) c.leq.ensures c.if-leq.false c.in_ok-insert-in-Err.ensures.items

pub returns-in_ok-join-in-Ok-clause-ok : goal.returns-in_ok-join-in-Ok-clause-ok
returns-in_ok-join-in-Ok-clause-ok g c =
    joins_replaced g.L.Lattice.joined g.met.K.Ord.total (record { start = c.self.inside.start; entries = c.self.inside.entries.items }) c.args.self.now c.args.key c.args.other.now c.in-Ok.at c.index_mut-entry.result.now c.join.new.self c.replace-was.new.dest c.self.view_is c.self.invariant.ascending (rw (← c.deref.ensures.value) c.in-Ok.ensures.at) c.index_mut-entry.ensures.value (started g.L.Lattice.joined c.index_mut-entry.result.now.1 c.in_ok-value-in-Ok.value c.join.new.self c.args.other.now (copied_place c.self.inside.entries.items c.in-Ok.at c.index.result.now c.index_mut-entry.result.now c.in_ok-value-in-Ok.value (in_place c.self.inside.entries.items c.in-Ok.at c.args.key g.K.Ord.cmp (rw (← c.deref.ensures.value) c.in-Ok.ensures.at)) c.index.ensures c.index_mut-entry.ensures.value c.in_ok-value-in-Ok.ensures) c.in_ok-join-in-Ok.ensures.ok) c.replace-was.ensures.after

pub returns-in_ok-join-in-Ok-clause-back : goal.returns-in_ok-join-in-Ok-clause-back
returns-in_ok-join-in-Ok-clause-back g c =
    undoes_replaced (IsMap g.K.Ord.cmp g.L.Lattice.kin g.L.Lattice.joined) (record { start = c.self.inside.start; entries = c.self.inside.entries.items }) c.args.self.now c.in-Ok.at c.replace-was.result c.replace-was.new.dest c.index_mut-entry.result.now c.self.view_is (in_place c.self.inside.entries.items c.in-Ok.at c.args.key g.K.Ord.cmp (rw (← c.deref.ensures.value) c.in-Ok.ensures.at)) c.index_mut-entry.ensures.value c.replace-was.ensures.value c.self.invariant

pub returns-in_ok-join-in-Ok-clause-canonical : goal.returns-in_ok-join-in-Ok-clause-canonical
returns-in_ok-join-in-Ok-clause-canonical g c = map_replaced g.met.K.Ord.total g.met.L.Lattice.laws (record { start = c.self.inside.start; entries = c.self.inside.entries.items }) c.args.key c.args.other.now c.in-Ok.at c.index_mut-entry.result.now c.join.new.self c.replace-was.new.dest c.self.invariant (rw (← c.deref.ensures.value) c.in-Ok.ensures.at) c.index_mut-entry.ensures.value (kin_along g.L.Lattice.kin c.index_mut-entry.result.now.1 _ c.args.other.now (value_here g.met.K.Ord.total c.args.key c.self.inside.start c.self.inside.entries.items c.in-Ok.at c.index_mut-entry.result.now c.self.invariant.ascending (rw (← c.deref.ensures.value) c.in-Ok.ensures.at) c.index_mut-entry.ensures.value) (kin_in_view g.K.Ord.cmp g.L.Lattice.kin (record { start = c.self.inside.start; entries = c.self.inside.entries.items }) c.args.self.now c.args.key c.args.other.now c.self.view_is c.requires)) (started g.L.Lattice.joined c.index_mut-entry.result.now.1 c.in_ok-value-in-Ok.value c.join.new.self c.args.other.now (copied_place c.self.inside.entries.items c.in-Ok.at c.index.result.now c.index_mut-entry.result.now c.in_ok-value-in-Ok.value (in_place c.self.inside.entries.items c.in-Ok.at c.args.key g.K.Ord.cmp (rw (← c.deref.ensures.value) c.in-Ok.ensures.at)) c.index.ensures c.index_mut-entry.ensures.value c.in_ok-value-in-Ok.ensures) c.in_ok-join-in-Ok.ensures.ok) c.replace-was.ensures.after

pub returns-in_ok-insert-in-Err-clause-ok : goal.returns-in_ok-insert-in-Err-clause-ok
returns-in_ok-insert-in-Err-clause-ok g c =
    joins_inserted g.L.Lattice.joined g.met.K.Ord.total (record { start = c.self.inside.start; entries = c.self.inside.entries.items }) c.args.self.now c.args.key c.args.other.now c.join-in-Err.new.self c.in-Err.at c.insert.new.self.items c.self.view_is c.self.invariant.ascending (rw (← c.deref.ensures.value) c.in-Err.ensures.gap) (started g.L.Lattice.joined c.self.inside.start c.in_ok-value-in-Err.value c.join-in-Err.new.self c.args.other.now c.in_ok-value-in-Err.ensures c.in_ok-join-in-Err.ensures.ok) c.in_ok-insert-in-Err.ensures.items

pub returns-in_ok-insert-in-Err-clause-back : goal.returns-in_ok-insert-in-Err-clause-back
returns-in_ok-insert-in-Err-clause-back g c =
    undoes_new (IsMap g.K.Ord.cmp g.L.Lattice.kin g.L.Lattice.joined) (record { start = c.self.inside.start; entries = c.self.inside.entries.items }) c.args.self.now c.in-Err.at (c.args.key, c.join-in-Err.new.self) c.insert.new.self.items c.self.view_is (in_gap c.self.inside.entries.items c.in-Err.at c.args.key g.K.Ord.cmp (rw (← c.deref.ensures.value) c.in-Err.ensures.gap)) c.in_ok-insert-in-Err.ensures.items c.self.invariant

pub returns-in_ok-insert-in-Err-clause-canonical : goal.returns-in_ok-insert-in-Err-clause-canonical
returns-in_ok-insert-in-Err-clause-canonical g c = map_inserted g.met.K.Ord.total g.met.L.Lattice.laws (record { start = c.self.inside.start; entries = c.self.inside.entries.items }) c.args.key c.args.other.now c.join-in-Err.new.self c.in-Err.at c.leq.result c.insert.new.self.items c.self.invariant (rw (← c.deref.ensures.value) c.in-Err.ensures.gap) (kin_along g.L.Lattice.kin c.self.inside.start _ c.args.other.now (value_absent g.met.K.Ord.total c.args.key c.self.inside.start c.self.inside.entries.items c.in-Err.at (rw (← c.deref.ensures.value) c.in-Err.ensures.gap)) (kin_in_view g.K.Ord.cmp g.L.Lattice.kin (record { start = c.self.inside.start; entries = c.self.inside.entries.items }) c.args.self.now c.args.key c.args.other.now c.self.view_is c.requires)) (started g.L.Lattice.joined c.self.inside.start c.in_ok-value-in-Err.value c.join-in-Err.new.self c.args.other.now c.in_ok-value-in-Err.ensures c.in_ok-join-in-Err.ensures.ok) c.leq.ensures c.if-leq.false c.in_ok-insert-in-Err.ensures.items
