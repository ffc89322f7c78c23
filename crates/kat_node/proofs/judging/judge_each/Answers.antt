use Rattle.std.proofs.Common.{rules, ◌≡◌, ◌<◌, ◌+◌, None, Some, drop, get_or, length}
use Rattle.kat_json.proofs.Refusing.{handed}
use Rattle.kat_node.specs.Possible.{element_faults, with_last}
use Rattle.kat_node.proofs.Judged.{judged_refused, last_left}
use Rattle.kat_node.proofs.judging.judge_each.Goals as goal

pub returns-in_err-within-clause-refused : goal.returns-in_err-within-clause-refused
returns-in_err-within-clause-refused g c =
    let xs = c.args.elements.now in
    let i = c.loop-i.i in
    let x = c.index-elements-i.result in
    let last = c.loop-i.last in
    let key = g.R.Rule.key in
    let inside : i < length xs = search rules in
    let is : x ≡ get_or xs i x = search rules in
    let e = c.in_err-within.field-0.0 in
    let f = element_faults g.R.Rule.ascend key (g.R.Rule.faults c.args.rule.now) in
    handed c.from_residual.result e _ c.from_residual.ensures.1
    (judged_refused f 0 (with_last key None xs) i (with_last key last (drop i xs)) (with_last key (Some (key x)) (drop (i + 1) xs)) (last, x) e c.loop-i.invariant
    (last_left key last xs i x inside is) (c.in_err-within.ensures.err (f (last, x)) c.judge_element.ensures.refused))
