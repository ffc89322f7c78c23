use Rattle.std.proofs.Common.{◌≡◌, map, take}
use Rattle.kat_design.specs.Designs.{component_form}
use Rattle.kat_explain.specs.Relating.{ref_text}
use Rattle.kat_type.specs.Types.{operation_form}
use Rattle.kat_explain.proofs.relating.ref_texts.Given as goal

abbrev pub invariant-loop-leaf : goal.invariant-loop-leaf
invariant-loop-leaf l =
    l.texts.items ≡ map (ref_text (map operation_form l.scene.ops.now) (map component_form l.scene.components.now) l.scene.names.now) (take l.leaf-index l.leaves)
