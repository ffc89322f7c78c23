use Rattle.std.proofs.Common.{◌≡◌, take, map}
use Rattle.kat_design.specs.Designs.{component_form}
use Rattle.kat_design.proofs.copies.copied_components.Given as goal

abbrev pub invariant-loop-component : goal.invariant-loop-component
invariant-loop-component l = map component_form l.copies.items ≡ map component_form (take l.component-index l.components)
