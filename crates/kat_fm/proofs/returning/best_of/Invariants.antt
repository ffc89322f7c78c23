use Rattle.std.proofs.Common.{◌≡◌, drop}
use Rattle.kat_fm.specs.Points.{best_of, best_from}
use Rattle.kat_fm.specs.Views.{combinations}
use Rattle.kat_fm.specs.EntryViews.{values_in, bound_in}
use Rattle.kat_fm.proofs.returning.best_of.Given as goal

abbrev pub invariant-loop-row : goal.invariant-loop-row
invariant-loop-row l = best_from l.lower l.variable (values_in l.values) (bound_in l.kept) (drop l.row-index (combinations l.others)) ≡ best_of l.lower l.variable (values_in l.values) (combinations l.rows)
