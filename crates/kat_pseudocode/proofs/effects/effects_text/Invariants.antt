use Rattle.std.proofs.Common.{◌≡◌, ◌+◌, ◌++◌, length, map}
use Rattle.kat_design.specs.Designs.{component_form}
use Rattle.kat_pseudocode.specs.Effects.{effect_text, effects_text}
use Rattle.kat_pseudocode.specs.Texts.{each_from, text_at}
use Rattle.kat_pseudocode.proofs.effects.effects_text.Given as goal

abbrev pub invariant-components : goal.invariant-components
invariant-components l =
    (l.text.items ++ each_from (λ place c. effect_text l.params l.op (text_at l.names place) c) l.place (map component_form l.rest)
    ≡ effects_text l.names (map component_form l.fn.components) l.params l.op) × (l.place + length l.rest ≡ length l.fn.components)

abbrev pub decreases-components : goal.decreases-components
decreases-components l = length l.rest
