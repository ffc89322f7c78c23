use Rattle.std.proofs.Common.{◌≡◌, ℤ, take, unsigned_abs}
use Rattle.std.specs.List.{AllPairs}
use Rattle.kat_cases.proofs.plain.has_each_once.Given as goal

abbrev pub invariant-loop-i : goal.invariant-loop-i
invariant-loop-i l = AllPairs (λ (k m : ℤ). unsigned_abs k ≡ unsigned_abs m → ⊥) (take l.i l.literals)
