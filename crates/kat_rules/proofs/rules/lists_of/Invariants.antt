use Rattle.std.proofs.Common.{◌≡◌, map, take}
use Rattle.kat_design.specs.Designs.{component_form}
use Rattle.kat_rules.specs.Tokens.{component_tokens}
use Rattle.kat_rules.proofs.rules.lists_of.Given as goal

abbrev pub invariant-loop-component : goal.invariant-loop-component
invariant-loop-component l = l.lists.items ≡ map (component_tokens l.constants) (map component_form (take l.component-index l.components))
