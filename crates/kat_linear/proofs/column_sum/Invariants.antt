use Rattle.kat_linear.specs.Sums.{products}
use Rattle.kat_linear.specs.Columns.{IsNarrowUpTo, number_in}
use Rattle.kat_linear.specs.Rows.{forms}
use Rattle.kat_linear.proofs.column_sum.Given as goal

abbrev pub invariant-loop-i : goal.invariant-loop-i
invariant-loop-i l = IsNarrowUpTo (products (number_in l.column) (forms l.rows) l.multipliers) l.i l.sum
