use Rattle.std.proofs.Common.{drop}
use Rattle.kat_fm.specs.Combinations.{combination_of}
use Rattle.kat_fm.specs.EntryViews.{combination_in, behind}
use Rattle.kat_fm.specs.Leaving.{GoAlike}
use Rattle.kat_fm.specs.Views.{combinations}
use Rattle.kat_fm.proofs.splitting.combine_each.Given as goal

abbrev pub invariant-loop-row : goal.invariant-loop-row
invariant-loop-row l = GoAlike (behind (λ n. combination_of l.variable (combination_in l.plus) n) (drop l.row-index (combinations l.minus)) (combinations l.rows.items)) (behind (λ n. combination_of l.variable (combination_in l.plus) n) (combinations l.minus) (combinations l.fn.rows.items))
