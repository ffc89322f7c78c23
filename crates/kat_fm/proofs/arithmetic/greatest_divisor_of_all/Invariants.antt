use Rattle.std.proofs.Common.{◌≡◌, drop}
use Rattle.kat_fm.specs.Points.{gcd_all}
use Rattle.kat_fm.proofs.arithmetic.greatest_divisor_of_all.Given as goal

abbrev pub invariant-loop-n : goal.invariant-loop-n
invariant-loop-n l = gcd_all l.g (drop l.n-index l.ns) ≡ gcd_all l.fn.a l.ns
