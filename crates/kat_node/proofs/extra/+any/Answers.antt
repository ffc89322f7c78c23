use Rattle.std.proofs.Common.{rules, arith, ◌≡◌, ◌<◌, ◌+◌, drop, get_or, length, map, Some}
use Rattle.serde_json.specs.View.{view}
use Rattle.kat_json.specs.Lists.{list_of}
use Rattle.kat_json.proofs.Refusing.{err_same, handed}
use Rattle.kat_node.specs.StateForms.{any_faults}
use Rattle.kat_node.proofs.Judged.{done_by, judged_next, judged_refused, ok_none}
use Rattle.kat_node.proofs.Nested.{any_list, deeper, drop_seen, no_deeper}
use Rattle.kat_node.proofs.extra.+any.Goals as goal

pub any-list-requires : goal.any-list-requires
any-list-requires t c =
    let ds = map view c.in-Some.values.now in
    let is : Some ds ≡ list_of (view c.args.value.now) = search rules in
    (omega (arith, deeper (view c.args.value.now) ds is), tt)

pub any-returns-in-Some-clause-done : goal.any-returns-in-Some-clause-done
any-returns-in-Some-clause-done t c =
    let ds = map view c.in-Some.values.now in
    let is : Some ds ≡ list_of (view c.args.value.now) = search rules in
    ok_none c.list.result _ _ (any_list (view c.args.value.now) ds is) c.list.ensures.done

pub any-returns-in-Some-clause-refused : goal.any-returns-in-Some-clause-refused
any-returns-in-Some-clause-refused t c =
    let ds = map view c.in-Some.values.now in
    let is : Some ds ≡ list_of (view c.args.value.now) = search rules in
    err_same c.list.result _ _ (any_list (view c.args.value.now) ds is) c.list.ensures.refused

pub list-any-requires : goal.list-any-requires
list-any-requires t c =
    let xs = c.args.values.now in
    let i = c.loop-i.i in
    let x = c.index-values-i.result in
    let inside : i < length xs = search rules in
    let is : x ≡ get_or xs i x = search rules in
    (omega (arith, no_deeper view xs i x inside is), tt)

pub list-returns-in_err-within-clause-refused : goal.list-returns-in_err-within-clause-refused
list-returns-in_err-within-clause-refused t c =
    let xs = c.args.values.now in
    let i = c.loop-i.i in
    let x = c.index-values-i.result in
    let inside : i < length xs = search rules in
    let is : x ≡ get_or xs i x = search rules in
    let e = c.in_err-within.field-0.0 in
    handed c.from_residual.result e _ c.from_residual.ensures.1
    (judged_refused any_faults 0 (map view xs) i (drop i (map view xs)) (drop (i + 1) (map view xs)) (view x) e c.loop-i.invariant
    (drop_seen view xs i x inside is) (c.in_err-within.ensures.err (any_faults (view x)) c.any.ensures.refused))

pub list-loop-i-preserved : goal.list-loop-i-preserved
list-loop-i-preserved t c =
    let xs = c.args.values.now in
    let i = c.loop-i.i in
    let x = c.index-values-i.result in
    let inside : i < length xs = search rules in
    let is : x ≡ get_or xs i x = search rules in
    judged_next any_faults 0 (map view xs) i (drop i (map view xs)) (drop (i + 1) (map view xs)) (view x) c.loop-i.invariant (drop_seen view xs i x inside is)
    (done_by c.any.result _ (any_faults (view x)) c.in_ok-within.ensures.ok c.any.ensures.done)
