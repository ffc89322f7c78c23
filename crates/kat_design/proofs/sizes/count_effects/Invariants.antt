use Rattle.std.proofs.Common.{◌≡◌, ◌-◌, ◌^◌, min, take}
use Rattle.std.specs.Prelude.{sum_by}
use Rattle.kat_design.specs.Sizes.{one_leaf}
use Rattle.kat_design.proofs.sizes.count_effects.Given as goal

abbrev pub invariant-loop-effect : goal.invariant-loop-effect
invariant-loop-effect g l = l.total ≡ min (sum_by one_leaf (take l.effect-index l.effects)) (2 ^ 64 - 1)
