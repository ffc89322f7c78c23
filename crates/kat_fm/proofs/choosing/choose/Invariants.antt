use Rattle.std.proofs.Common.{◌≡◌, ◌-◌, None}
use Rattle.kat_fm.specs.Combinations.{counted}
use Rattle.kat_fm.specs.Eliminations.{choice_from}
use Rattle.kat_fm.specs.Views.{combinations, chosen, IsCounted}
use Rattle.kat_fm.proofs.choosing.choose.Given as goal

abbrev pub invariant-loop-variable : goal.invariant-loop-variable
invariant-loop-variable l = record {
  best : choice_from (combinations l.fn.rows) (chosen l.best) (counted l.variable (l.fn.vars - l.variable)) ≡ choice_from (combinations l.fn.rows) None (counted 0 l.fn.vars);
  counts : IsCounted (combinations l.fn.rows) l.best;
}
