use Rattle.std.proofs.Common.{◌≡◌, ◌-◌, ◌^◌, min, take}
use Rattle.std.specs.Prelude.{sum_by}
use Rattle.kat_design.specs.Sizes.{cell_leaves}
use Rattle.kat_design.proofs.sizes.cell_leaves.Given as goal

abbrev pub invariant-loop-effect : goal.invariant-loop-effect
invariant-loop-effect l = l.total ≡ min (sum_by cell_leaves (take l.effect-index l.effects)) (2 ^ 64 - 1)
