use Rattle.std.proofs.Common.{◌≡◌, ◌+◌, ◌++◌, length, map}
use Rattle.kat_design.specs.Designs.{component_form}
use Rattle.kat_pseudocode.specs.Effects.{op_text}
use Rattle.kat_pseudocode.specs.Texts.{each_from}
use Rattle.kat_type.specs.Types.{operation_form}
use Rattle.kat_explain.proofs.sections.push_ops.Given as goal

abbrev pub invariant-ops : goal.invariant-ops
invariant-ops l =
    (l.into.items ++ each_from (op_text l.scene.names.now (map component_form l.scene.components.now)) l.place (map operation_form l.rest)
    ≡ l.fn.into.items ++ each_from (op_text l.scene.names.now (map component_form l.scene.components.now)) 0 (map operation_form l.scene.ops.now))
    × (l.place + length l.rest ≡ length l.scene.ops.now)

abbrev pub decreases-ops : goal.decreases-ops
decreases-ops l = length l.rest
