use Rattle.kat_design.specs.Faults.{within}
use Rattle.kat_json.proofs.Refusing.{handed, refused_behind, refused_front, within_none}
use Rattle.std.specs.Prelude.{◌^◌}
use Rattle.kat_node.specs.Possible.{range_faults}
use Rattle.kat_node.proofs.Judged.{done_by}
use Rattle.kat_node.proofs.rules.judge_sum.Goals as goal

pub returns-in_err-within-clause-refused : goal.returns-in_err-within-clause-refused
returns-in_err-within-clause-refused c =
    let e = c.in_err-within.field-0.0 in
    let f = range_faults 1 32 c.args.sum.now.0 in
    let g = range_faults 1 (10 ^ 18) c.args.sum.now.1 in
    handed c.from_residual.result e _ c.from_residual.ensures.1 (refused_front (within 0 f) (within 1 g) e (c.in_err-within.ensures.err f c.in_range.ensures.refused))

pub returns-in_err-within-2-clause-refused : goal.returns-in_err-within-2-clause-refused
returns-in_err-within-2-clause-refused c =
    let e = c.in_err-within-2.field-0.0 in
    let f = range_faults 1 32 c.args.sum.now.0 in
    let g = range_faults 1 (10 ^ 18) c.args.sum.now.1 in
    let none = within_none 0 f (done_by c.in_range.result _ f c.in_ok-within.ensures.ok c.in_range.ensures.done) in
    handed c.from_residual-in_err-within-2.result e _ c.from_residual-in_err-within-2.ensures.1
    (refused_behind (within 0 f) (within 1 g) e none (c.in_err-within-2.ensures.err g c.in_range-2.ensures.refused))
