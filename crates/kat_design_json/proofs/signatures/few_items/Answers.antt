use Rattle.std.proofs.Common.{◌≡◌, List, map, take, rules, subst, Some}
use Rattle.serde_json.specs.Data.{Data}
use Rattle.serde_json.specs.View.{view}
use Rattle.kat_design_json.specs.DesignFaults.{items_faults}
use Rattle.kat_json.specs.Lists.{list_of}
use Rattle.kat_json.specs.Refused.{IsRefused, IsSaid}
use Rattle.kat_design_json.proofs.NamedItems.{few_refused, few_said}
use Rattle.kat_json.proofs.Refusing.{handed}
use Rattle.kat_design_json.proofs.signatures.few_items.Goals as goal

pub returns-in_err-items-clause-refused : goal.returns-in_err-items-clause-refused
returns-in_err-items-clause-refused g c =
    let d = view c.args.value.now in
    let ds = map view c.in-Some.values.now in
    let e = c.in_err-items.field-0.0 in
    let is : Some ds ≡ list_of d = search rules in
    let taken : map view c.front.result.now ≡ take 12 ds = search rules in
    let refused = subst (λ (xs : List Data). IsRefused (items_faults g.N.Named.faults c.args.used.items 0 xs) e) taken c.in_err-items.ensures.refused in
    handed c.from_residual.result e _ c.from_residual.ensures.1 (few_refused g.N.Named.faults c.args.used.items d ds e is refused)

pub returns-clause-said : goal.returns-clause-said
returns-clause-said g c =
    let d = view c.args.value.now in
    let ds = map view c.in-Some.values.now in
    let is : Some ds ≡ list_of d = search rules in
    let taken : map view c.front.result.now ≡ take 12 ds = search rules in
    let said = subst (λ (xs : List Data). IsSaid (items_faults g.N.Named.faults c.args.used.items 0 xs) (map g.N.Named.said xs) c.in_ok-items.items) taken c.in_ok-items.ensures.said in
    few_said g.N.Named.faults g.N.Named.said c.args.used.items d ds c.in_ok-items.items is said.0 said.1 c.in_ok-past.ensures.done
