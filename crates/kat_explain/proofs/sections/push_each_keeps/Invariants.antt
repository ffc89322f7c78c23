use Rattle.std.proofs.Common.{◌≡◌, ◌+◌, ◌++◌, length, map}
use Rattle.kat_design.specs.Designs.{component_form}
use Rattle.kat_pseudocode.specs.Keeping.{keeps_text}
use Rattle.kat_explain.specs.Sections.{each_keeps}
use Rattle.kat_pseudocode.specs.Texts.{each_from, text_at}
use Rattle.kat_type.specs.Types.{operation_form}
use Rattle.kat_explain.proofs.sections.push_each_keeps.Given as goal

abbrev pub invariant-components : goal.invariant-components
invariant-components l =
    (l.into.items ++ each_from (λ place c. keeps_text (map operation_form l.scene.ops.now) (text_at l.scene.names.now place) c) l.place (map component_form l.rest)
    ≡ l.fn.into.items ++ each_keeps (map operation_form l.scene.ops.now) l.scene.names.now (map component_form l.scene.components.now))
    × (l.place + length l.rest ≡ length l.scene.components.now)

abbrev pub decreases-components : goal.decreases-components
decreases-components l = length l.rest
