use Rattle.std.proofs.Common.{◌≡◌, ◌<◌, ◌+◌, drop, get_or, length, map, rules}
use Rattle.serde_json.specs.View.{view}
use Rattle.kat_design.proofs.Firsts.{left_map}
use Rattle.kat_json.proofs.Refusing.{handed, read_refused}
use Rattle.kat_json.proofs.seen.seen_each.Goals as goal

pub returns-in_err-item-clause-refused : goal.returns-in_err-item-clause-refused
returns-in_err-item-clause-refused g c =
    let vs = c.args.values.now in
    let i = c.loop-i.i in
    let v = c.index-values-i.result in
    let inside : i < length vs = search rules in
    let is : v ≡ get_or vs i v = search rules in
    let e = c.in_err-item.field-0.0 in
    handed c.from_residual.result e _ c.from_residual.ensures.1
    (read_refused (g.S.SeenForm.faults c.args.form.now) (g.S.SeenForm.said c.args.form.now) (map view vs) i (map view (drop i vs)) (map view (drop (i + 1) vs)) (map g.S.SeenForm.seen c.loop-i.items.items) (view v) e
    c.loop-i.invariant (left_map view vs i v inside is) (c.in_err-item.ensures.err (g.S.SeenForm.faults c.args.form.now (view v)) c.read.ensures.refused))
