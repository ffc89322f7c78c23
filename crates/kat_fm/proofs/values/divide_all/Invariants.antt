use Rattle.std.proofs.Common.{◌≡◌, ◌++◌, pos, map, take, drop}
use Rattle.std.specs.Prelude.{int_div}
use Rattle.kat_fm.proofs.values.divide_all.Given as goal

abbrev pub invariant-loop-n : goal.invariant-loop-n
invariant-loop-n l = l.n-items ≡ map (λ n. int_div n (pos l.fn.g)) (take l.n-index l.fn.nums.items) ++ drop l.n-index l.fn.nums.items
