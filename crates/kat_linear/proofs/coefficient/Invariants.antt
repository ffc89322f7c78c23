use Rattle.std.proofs.Common.{◌≡◌, drop}
use Rattle.kat_linear.specs.Rows.{coefficient_in}
use Rattle.kat_linear.proofs.coefficient.Given as goal

abbrev pub invariant-loop-v : goal.invariant-loop-v
invariant-loop-v l = coefficient_in l.terms l.variable ≡ coefficient_in (drop l.v-index l.terms) l.variable
