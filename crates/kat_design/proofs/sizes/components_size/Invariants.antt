use Rattle.std.proofs.Common.{◌≡◌, ◌-◌, ◌^◌, min, take}
use Rattle.std.specs.Prelude.{sum_by}
use Rattle.kat_design.specs.Sizes.{component_size}
use Rattle.kat_design.specs.Designs.{component_form}
use Rattle.kat_design.proofs.sizes.components_size.Given as goal

abbrev pub invariant-loop-component : goal.invariant-loop-component
invariant-loop-component l = l.total ≡ min (sum_by (λ x. component_size (component_form x)) (take l.component-index l.components)) (2 ^ 64 - 1)
