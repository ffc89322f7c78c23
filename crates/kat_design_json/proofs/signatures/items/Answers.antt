use Rattle.std.proofs.Common.{◌≡◌, ℕ, List, subst, ◌<◌, ◌+◌, drop, get_or, length, map, rules}
use Rattle.std.specs.Prelude.{IfErr}
use Rattle.kat_json.specs.Refused.{IsRefused}
use Rattle.serde_json.specs.View.{view}
use Rattle.kat_design.proofs.Firsts.{left_map}
use Rattle.kat_design_json.proofs.NamedItems.{named_refused}
use Rattle.kat_json.proofs.Refusing.{handed}
use Rattle.kat_design_json.proofs.signatures.items.Goals as goal

pub returns-in_err-item-clause-refused : goal.returns-in_err-item-clause-refused
returns-in_err-item-clause-refused g c =
    let vs = c.args.values.now in
    let i = c.loop-i.i in
    let v = c.index-values-i.result in
    let inside : i < length vs = search rules in
    let is : v ≡ get_or vs i v = search rules in
    let e = c.in_err-item.field-0.0 in
    let refused = subst (λ (us : List ℕ). IfErr c.read.result (IsRefused (g.N.Named.faults us (view v)))) c.deref.ensures.value c.read.ensures.refused in
    handed c.from_residual.result e _ c.from_residual.ensures.1
    (named_refused g.N.Named.faults g.N.Named.said c.args.used.items (map view vs) i (map view (drop i vs)) (map view (drop (i + 1) vs)) c.loop-i.used.items c.loop-i.items.items
    (view v) e c.loop-i.invariant (left_map view vs i v inside is) (c.in_err-item.ensures.err (g.N.Named.faults c.loop-i.used.items (view v)) refused))
