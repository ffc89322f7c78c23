use Rattle.std.proofs.Common.{◌+◌, length}
use Rattle.std.specs.Vec.{vec_capacity}
use Rattle.kat_join.specs.Keyed.{by_key}
use Rattle.kat_lattice.proofs.Moves.{Moves}
use Rattle.kat_lattice.proofs.in_place.move_in.Given as goal

abbrev pub invariant-loop-entry : goal.invariant-loop-entry
invariant-loop-entry g l = Moves (by_key g.K.Ord.cmp) l.fn.entries.items l.fn.room.entries l.entries.items l.mine.items l.fresh.items (vec_capacity l.entries)

abbrev pub decreases-loop-entry : goal.decreases-loop-entry
decreases-loop-entry g l = length l.mine.items + length l.fresh.items
