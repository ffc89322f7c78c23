use Rattle.std.proofs.Common.{◌≡◌, ◌^◌, ℤ, drop}
use Rattle.kat_fm.specs.Limits.{checked_product, checked_scaled}
use Rattle.kat_fm.specs.EntryViews.{behind}
use Rattle.kat_fm.proofs.arithmetic.scale.Given as goal

abbrev pub invariant-loop-n : goal.invariant-loop-n
invariant-loop-n l = behind (λ (n : ℤ). checked_product (2 ^ 126) n l.fn.factor) (drop l.n-index l.ns) l.all.items ≡ checked_scaled (2 ^ 126) l.ns l.fn.factor
