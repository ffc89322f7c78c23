use Rattle.std.proofs.Common.{◌≡◌, ◌-◌, ◌^◌, min, take}
use Rattle.std.specs.Prelude.{sum_by}
use Rattle.kat_design.specs.Sizes.{table_leaves}
use Rattle.kat_design.proofs.sizes.table_leaves.Given as goal

abbrev pub invariant-loop-effect : goal.invariant-loop-effect
invariant-loop-effect l = l.total ≡ min (sum_by table_leaves (take l.effect-index l.effects)) (2 ^ 64 - 1)
