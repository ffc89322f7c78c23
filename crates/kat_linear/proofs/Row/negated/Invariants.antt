use Rattle.std.proofs.Common.{◌≡◌, neg_ℤ, map, take}
use Rattle.kat_linear.specs.Rows.{Term}
use Rattle.kat_linear.proofs.Row.negated.Given as goal

abbrev pub invariant-loop-variable : goal.invariant-loop-variable
invariant-loop-variable l = l.terms.items ≡ map (λ (t : Term). (t.0, neg_ℤ t.1)) (take l.variable-index l.variable-items)
