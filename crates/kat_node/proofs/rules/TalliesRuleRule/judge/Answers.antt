use Rattle.std.proofs.Common.{◌++◌, List, ℤ, subst}
use Rattle.kat_design.specs.Faults.{here_if, within}
use Rattle.kat_json.proofs.Refusing.{handed, refused_behind, refused_front, within_none}
use Rattle.kat_json.specs.Refused.{IsRefused}
use Rattle.kat_node.specs.Possible.{is_empty, key_faults, sums_faults}
use Rattle.kat_node.proofs.Judged.{done_by}
use Rattle.kat_node.proofs.rules.TalliesRuleRule.judge.Goals as goal

pub returns-in_err-within-clause-refused : goal.returns-in_err-within-clause-refused
returns-in_err-within-clause-refused c =
    let e = c.in_err-within.field-0.0 in
    let entry = c.args.element.now in
    let f = key_faults c.args.self.now.sort entry.0 in
    let g = here_if (is_empty entry.1) ++ sums_faults entry.1 in
    handed c.from_residual.result e _ c.from_residual.ensures.1 (refused_front (within 0 f) (within 1 g) e (c.in_err-within.ensures.err f c.judge_key.ensures.refused))

pub returns-in_err-within-2-clause-refused : goal.returns-in_err-within-2-clause-refused
returns-in_err-within-2-clause-refused c =
    let e = c.in_err-within-2.field-0.0 in
    let entry = c.args.element.now in
    let f = key_faults c.args.self.now.sort entry.0 in
    let g = here_if (is_empty entry.1) ++ sums_faults entry.1 in
    let none = within_none 0 f (done_by c.judge_key.result _ f c.in_ok-within.ensures.ok c.judge_key.ensures.done) in
    handed c.from_residual-in_err-within-2.result e _ c.from_residual-in_err-within-2.ensures.1
    (refused_behind (within 0 f) (within 1 g) e none
    (subst (λ (xs : List (ℤ × ℤ)). IsRefused (within 1 (here_if (is_empty xs) ++ sums_faults xs)) e) c.as_slice.ensures
    (c.in_err-within-2.ensures.err (here_if (is_empty c.as_slice.result.now) ++ sums_faults c.as_slice.result.now) c.judge_some.ensures.refused)))
