use Rattle.std.proofs.Common.{◌≡◌, [], map, take}
use Rattle.kat_design.specs.Denotations.{part_of}
use Rattle.kat_design.specs.Designs.{component_form}
use Rattle.kat_replica.proofs.starts.start_parts.Given as goal

abbrev pub invariant-loop-component : goal.invariant-loop-component
invariant-loop-component l = l.parts.items ≡ map (λ component. part_of (component_form component) []) (take l.component-index l.components)
