use Rattle.std.proofs.Common.{◌^◌, ◌≤◌, ◌-◌}
use Rattle.kat_linear.specs.Rows.{forms}
use Rattle.kat_linear.proofs.Balances.{IsBalanceBelow}
use Rattle.kat_linear.proofs.variables_cancel.Given as goal

abbrev pub invariant-loop-variable : goal.invariant-loop-variable
invariant-loop-variable l = (l.from ≤ 2 ^ 32) × IsBalanceBelow (forms l.rows) l.multipliers l.from l.balanced

abbrev pub decreases-loop-variable : goal.decreases-loop-variable
decreases-loop-variable l = 2 ^ 32 - l.from
