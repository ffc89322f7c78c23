use Rattle.std.proofs.Common.{length, ◌-◌, ◌+◌}
use Rattle.kat_join.specs.Keyed.{by_key, on_value}
use Rattle.kat_lattice.proofs.Walking.{Walks}
use Rattle.kat_lattice.proofs.in_place.join_present.Given as goal

abbrev pub invariant-loop-j : goal.invariant-loop-j
invariant-loop-j g l = Walks (by_key g.K.Ord.cmp) (on_value g.L.Lattice.joined) l.initial.mine.items l.theirs l.mine.items l.i l.j

abbrev pub decreases-loop-j : goal.decreases-loop-j
decreases-loop-j g l = (length l.initial.mine.items - l.i) + (length l.theirs - l.j)
