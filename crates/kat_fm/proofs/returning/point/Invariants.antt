use Rattle.std.proofs.Common.{◌≡◌, length}
use Rattle.kat_fm.specs.Points.{values_back, point_of}
use Rattle.kat_fm.specs.EntryViews.{values_in}
use Rattle.kat_fm.specs.Views.{stack_of}
use Rattle.kat_fm.proofs.returning.point.Given as goal

abbrev pub invariant-loop-rows : goal.invariant-loop-rows
invariant-loop-rows l = values_back (values_in l.values) (stack_of l.taken.items) ≡ point_of l.fn.vars (stack_of l.fn.taken.items)

abbrev pub decreases-loop-rows : goal.decreases-loop-rows
decreases-loop-rows l = length l.taken.items
