use Rattle.std.proofs.Common.{◌≡◌, ◌+◌, ◌++◌, length, map}
use Rattle.kat_design.specs.Designs.{ask_form, component_form}
use Rattle.kat_pseudocode.specs.Asking.{query_text}
use Rattle.kat_pseudocode.specs.Texts.{each_from}
use Rattle.kat_type.specs.Types.{operation_form, query_form}
use Rattle.kat_explain.proofs.sections.push_all_answers.Given as goal

abbrev pub invariant-queries : goal.invariant-queries
invariant-queries l =
    (l.into.items
    ++ each_from (query_text (map operation_form l.scene.ops.now) (map component_form l.scene.components.now) l.scene.names.now (map ask_form l.asks)) l.place (map query_form l.rest)
    ≡ l.fn.into.items
    ++ each_from (query_text (map operation_form l.scene.ops.now) (map component_form l.scene.components.now) l.scene.names.now (map ask_form l.asks)) 0 (map query_form l.fn.queries))
    × (l.place + length l.rest ≡ length l.fn.queries)

abbrev pub decreases-queries : goal.decreases-queries
decreases-queries l = length l.rest
