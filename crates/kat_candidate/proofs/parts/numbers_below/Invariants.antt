use Rattle.std.proofs.Common.{◌≡◌, ◌++◌, ◌-◌}
use Rattle.kat_candidate.specs.Parts.{numbers_from}
use Rattle.kat_candidate.proofs.parts.numbers_below.Given as goal

abbrev pub invariant-loop-i : goal.invariant-loop-i
invariant-loop-i l = l.numbers.items ++ numbers_from l.i (l.count - l.i) ≡ numbers_from 0 l.count
