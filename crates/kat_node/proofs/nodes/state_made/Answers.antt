use Rattle.std.proofs.Common.{◌++◌, List, length, map, subst}
use Rattle.std.specs.Prelude.{◌==◌, ◌^◌, not}
use Rattle.kat_design.specs.Designs.{component_form}
use Rattle.kat_design.specs.Faults.{each_faults, here_if, within}
use Rattle.kat_json.proofs.Refusing.{handed, refused_front, refused_second, refused_third, within_none}
use Rattle.kat_json.specs.Refused.{IsRefused}
use Rattle.kat_node.specs.Possible.{pair_faults, range_faults}
use Rattle.kat_node.specs.StateForms.{zipped}
use Rattle.kat_node.specs.declared.stated.Stated.{Stated}
use Rattle.kat_node.proofs.Judged.{done_by}
use Rattle.kat_node.proofs.nodes.state_made.Goals as goal

pub returns-in_err-within-clause-refused : goal.returns-in_err-within-clause-refused
returns-in_err-within-clause-refused c =
    let e = c.in_err-within.field-0.0 in
    let node = c.args.node.now in
    let cs = map component_form c.args.components.now in
    let f = range_faults 1 32 node.number in
    let g = range_faults 0 (10 ^ 9) node.clock in
    let h = here_if (not (node.count == length cs)) ++ each_faults pair_faults 0 (zipped cs node.parts) in
    handed c.from_residual.result e _ c.from_residual.ensures.1
    (refused_front (within 2 f ++ within 3 g) (within 4 h) e (refused_front (within 2 f) (within 3 g) e (c.in_err-within.ensures.err f c.in_range.ensures.refused)))

pub returns-in_err-within-2-clause-refused : goal.returns-in_err-within-2-clause-refused
returns-in_err-within-2-clause-refused c =
    let e = c.in_err-within-2.field-0.0 in
    let node = c.args.node.now in
    let cs = map component_form c.args.components.now in
    let f = range_faults 1 32 node.number in
    let g = range_faults 0 (10 ^ 9) node.clock in
    let h = here_if (not (node.count == length cs)) ++ each_faults pair_faults 0 (zipped cs node.parts) in
    let none = within_none 2 f (done_by c.in_range.result _ f c.in_ok-within.ensures.ok c.in_range.ensures.done) in
    handed c.from_residual-in_err-within-2.result e _ c.from_residual-in_err-within-2.ensures.1
    (refused_second (within 2 f) (within 3 g) (within 4 h) e none (c.in_err-within-2.ensures.err g c.in_range-2.ensures.refused))

pub returns-in_err-parts-clause-refused : goal.returns-in_err-parts-clause-refused
returns-in_err-parts-clause-refused c =
    let e = c.in_err-parts.field-0.0 in
    let node = c.args.node.now in
    let cs = map component_form c.args.components.now in
    let f = range_faults 1 32 node.number in
    let g = range_faults 0 (10 ^ 9) node.clock in
    let h = here_if (not (node.count == length cs)) ++ each_faults pair_faults 0 (zipped cs node.parts) in
    let ps = c.as_slice.result.now in
    let none = within_none 2 f (done_by c.in_range.result _ f c.in_ok-within.ensures.ok c.in_range.ensures.done) in
    let empty = within_none 3 g (done_by c.in_range-2.result _ g c.in_ok-within-2.ensures.ok c.in_range-2.ensures.done) in
    handed c.from_residual-in_err-parts.result e _ c.from_residual-in_err-parts.ensures.1
    (refused_third (within 2 f) (within 3 g) (within 4 h) e none empty
    (subst (λ (xs : List Stated). IsRefused (within 4 (here_if (not (node.count == length cs)) ++ each_faults pair_faults 0 (zipped cs xs))) e) c.as_slice.ensures
    (c.in_err-parts.ensures.err (here_if (not (node.count == length cs)) ++ each_faults pair_faults 0 (zipped cs ps)) c.counted_parts.ensures.refused)))
