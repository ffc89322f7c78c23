use Rattle.std.proofs.Common.{◌≡◌, ◌+ℤ◌, drop, pos}
use Rattle.kat_linear.specs.Rows.{term_sum}
use Rattle.kat_points.specs.Points.{goes_past, number_at, term_factors}
use Rattle.kat_points.proofs.sums.terms_sum.Given as goal

abbrev pub invariant-loop-term : goal.invariant-loop-term
invariant-loop-term l = record {
  past : goes_past l.total (term_factors l.nums (drop l.term-index l.terms)) ≡ goes_past (pos 0) (term_factors l.nums l.terms);
  sum : l.total +ℤ term_sum (number_at l.nums) (drop l.term-index l.terms) ≡ term_sum (number_at l.nums) l.terms;
}
