use Rattle.std.proofs.Common.{ℕ, ◌^◌, ◌<◌, ◌≤◌, take}
use Rattle.kat_linear.specs.Rows.{forms}
use Rattle.kat_linear.specs.Columns.{AreWithout}
use Rattle.kat_linear.proofs.next_variable.Given as goal

abbrev pub invariant-loop-row : goal.invariant-loop-row
invariant-loop-row l =
    (l.least ≤ 2 ^ 32) × (l.from ≤ 2 ^ 32 → l.from ≤ l.least)
    × ((v : ℕ) → l.from ≤ v → v < l.least → AreWithout (take l.row-index (forms l.rows)) v)
    × ((v : ℕ) → 2 ^ 32 ≤ v → AreWithout (take l.row-index (forms l.rows)) v)
