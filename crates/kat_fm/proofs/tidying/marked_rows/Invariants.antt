use Rattle.std.proofs.Common.{◌≡◌}
use Rattle.kat_fm.specs.Views.{combinations, marked}
use Rattle.kat_fm.proofs.tidying.marked_rows.Given as goal

abbrev pub invariant-loop-place : goal.invariant-loop-place
invariant-loop-place l = combinations l.left.items ≡ marked l.marks l.yielded
