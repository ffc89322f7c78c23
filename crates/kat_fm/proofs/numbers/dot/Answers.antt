use Rattle.std.proofs.Common.{◌^◌, pos, get_or, ◌∙◌, arith, rules, FitsSigned}
use Rattle.std.specs.Int.{w128}
use Rattle.std.proofs.lemmas.Int.{to_z-of_z}
use Rattle.std.proofs.lemmas.List.{get_or_default}
use Rattle.kat_linear.specs.Rows.{Term}
use Rattle.kat_fm.specs.Entries.{AreEntries}
use Rattle.kat_fm.proofs.Passing.{handed_on}
use Rattle.kat_fm.proofs.EntrySums.{dot_is, dot_more, dot_stops, dot_past, dot_ends}
use Rattle.kat_fm.proofs.numbers.dot.Goals as goal

pub returns-in_default : goal.returns-in_default
returns-in_default c =
    let cs = c.args.cs.now in let xs = c.deref-place-items.result.now in let i = c.loop-place.place-index in
    let has : AreEntries cs.count cs.entries.items = record { ascending = cs.ascending; below = cs.below; not_zero = cs.not_zero } in
    let e : Term = get_or xs i (0, pos 0) in
    dot_past (2 ^ 126) _ xs c.args.ns.now i e _ c.loop-place-test.true (get_or_default xs i (0, pos 0) e c.loop-place-test.true) (grind arith) c.loop-place.invariant
    ∙ dot_is (2 ^ 126) cs.count cs.entries.items c.args.ns.now has

pub returns-in_err-total : goal.returns-in_err-total
returns-in_err-total c =
    let cs = c.args.cs.now in let xs = c.deref-place-items.result.now in let i = c.loop-place.place-index in
    let has : AreEntries cs.count cs.entries.items = record { ascending = cs.ascending; below = cs.below; not_zero = cs.not_zero } in
    let e : Term = get_or xs i (0, pos 0) in
    let e_fits : FitsSigned w128 e.1 = search rules in
    let n_fits : FitsSigned w128 c.in-Some.n.now = search rules in
    let step = simp to_z-of_z at c.in_err-total.ensures in
    handed_on _ _ _ _ c.from_residual.ensures.1
    (dot_stops (2 ^ 126) _ xs c.args.ns.now i e c.in-Some.n.now _ _ _ c.loop-place-test.true (get_or_default xs i (0, pos 0) e c.loop-place-test.true) c.in-Some.ensures.lookup.3.0 (c.in-Some.ensures.lookup.3.1 c.in-Some.n.now) step c.loop-place.invariant
    ∙ dot_is (2 ^ 126) cs.count cs.entries.items c.args.ns.now has)

pub loop-place-preserved : goal.loop-place-preserved
loop-place-preserved c =
    let cs = c.args.cs.now in let xs = c.deref-place-items.result.now in let i = c.loop-place.place-index in
    let e : Term = get_or xs i (0, pos 0) in
    let e_fits : FitsSigned w128 e.1 = search rules in
    let n_fits : FitsSigned w128 c.in-Some.n.now = search rules in
    let s_fits : FitsSigned w128 c.in_ok-total.total = search rules in
    let step = simp to_z-of_z at c.in_ok-total.ensures in
    simp to_z-of_z (dot_more (2 ^ 126) _ xs c.args.ns.now i e c.in-Some.n.now c.in_ok-total.total _ c.loop-place-test.true (get_or_default xs i (0, pos 0) e c.loop-place-test.true) c.in-Some.ensures.lookup.3.0 (c.in-Some.ensures.lookup.3.1 c.in-Some.n.now) step c.loop-place.invariant)

pub returns : goal.returns
returns c =
    let cs = c.args.cs.now in let xs = c.deref-place-items.result.now in let i = c.loop-place.place-index in
    let has : AreEntries cs.count cs.entries.items = record { ascending = cs.ascending; below = cs.below; not_zero = cs.not_zero } in
    dot_ends (2 ^ 126) _ xs c.args.ns.now i _ (omega arith) c.loop-place.invariant ∙ dot_is (2 ^ 126) cs.count cs.entries.items c.args.ns.now has
