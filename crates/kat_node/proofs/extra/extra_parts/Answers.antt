use Rattle.std.proofs.Common.{rules, ◌≡◌, ◌<◌, ◌+◌, drop, get_or, length, map}
use Rattle.serde_json.specs.View.{view}
use Rattle.kat_json.proofs.Refusing.{handed}
use Rattle.kat_node.specs.StateForms.{extra_faults}
use Rattle.kat_node.proofs.Judged.{done_by, judged_next, judged_refused}
use Rattle.kat_node.proofs.Nested.{drop_seen}
use Rattle.kat_node.proofs.extra.extra_parts.Goals as goal

pub returns-in_err-within-clause-refused : goal.returns-in_err-within-clause-refused
returns-in_err-within-clause-refused c =
    let xs = c.args.values.now in
    let i = c.loop-i.i in
    let x = c.index-values-i.result in
    let inside : i < length xs = search rules in
    let is : x ≡ get_or xs i x = search rules in
    let e = c.in_err-within.field-0.0 in
    handed c.from_residual.result e _ c.from_residual.ensures.1
    (judged_refused extra_faults c.args.count (drop c.args.count (map view xs)) i (drop i (map view xs)) (drop (i + 1) (map view xs)) (view x) e c.loop-i.invariant
    (drop_seen view xs i x inside is) (c.in_err-within.ensures.err (extra_faults (view x)) c.extra.ensures.refused))

pub loop-i-preserved : goal.loop-i-preserved
loop-i-preserved c =
    let xs = c.args.values.now in
    let i = c.loop-i.i in
    let x = c.index-values-i.result in
    let inside : i < length xs = search rules in
    let is : x ≡ get_or xs i x = search rules in
    judged_next extra_faults c.args.count (drop c.args.count (map view xs)) i (drop i (map view xs)) (drop (i + 1) (map view xs)) (view x) c.loop-i.invariant (drop_seen view xs i x inside is)
    (done_by c.extra.result _ (extra_faults (view x)) c.in_ok-within.ensures.ok c.extra.ensures.done)
