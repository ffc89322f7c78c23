use Rattle.std.proofs.Common.{◌≡◌, ℕ, ◌^◌, ◌<◌, ◌≤◌, drop}
use Rattle.kat_linear.specs.Rows.{coefficient_in}
use Rattle.kat_linear.proofs.least_variable.Given as goal

abbrev pub invariant-loop-variable : goal.invariant-loop-variable
invariant-loop-variable l =
    (l.least ≤ l.best) × (l.from ≤ l.best → l.from ≤ l.least)
    × ((v : ℕ) → l.from ≤ v → v < l.least → coefficient_in l.terms v ≡ coefficient_in (drop l.variable-index l.terms) v)
    × ((v : ℕ) → 2 ^ 32 ≤ v → coefficient_in l.terms v ≡ coefficient_in (drop l.variable-index l.terms) v)
