use Rattle.std.proofs.Common.{◌≡◌, drop}
use Rattle.kat_linear.specs.Rows.{coefficient, forms}
use Rattle.kat_linear.specs.Sums.{combined}
use Rattle.kat_linear.specs.Widths.{pair_in_terms}
use Rattle.kat_linear.proofs.widths.wide_in_terms.Given as goal

abbrev pub invariant-loop-variable : goal.invariant-loop-variable
invariant-loop-variable l = pair_in_terms l.multiplier (λ v. combined (coefficient v) (forms l.before) l.done) (drop l.variable-index l.terms) ≡ pair_in_terms l.multiplier (λ v. combined (coefficient v) (forms l.before) l.done) l.terms
