use Rattle.std.proofs.Common.{drop}
use Rattle.kat_fm.specs.Eliminations.{couples}
use Rattle.kat_fm.specs.EntryViews.{behind}
use Rattle.kat_fm.specs.Leaving.{GoAlike}
use Rattle.kat_fm.specs.Views.{combinations}
use Rattle.kat_fm.proofs.Couplings.{combined_in}
use Rattle.kat_fm.proofs.splitting.combine_all.Given as goal

abbrev pub invariant-loop-row : goal.invariant-loop-row
invariant-loop-row l = GoAlike (behind (combined_in l.variable) (couples (drop l.row-index (combinations l.plus)) (combinations l.minus)) (combinations l.rows.items)) (behind (combined_in l.variable) (couples (combinations l.plus) (combinations l.minus)) (combinations l.fn.rows.items))
