use Rattle.std.proofs.Common.{rules, ◌≡◌, ◌<◌, ◌≤◌, ◌+◌, drop, get_or, length, map}
use Rattle.std.specs.Prelude.{min}
use Rattle.serde_json.specs.View.{view}
use Rattle.kat_design.specs.Designs.{component_form}
use Rattle.kat_json.proofs.Refusing.{handed, read_all, read_refused}
use Rattle.kat_node.specs.StateForms.{pair_stated_faults, pair_stated_said, stated_faults, zipped}
use Rattle.kat_node.proofs.Zipping.{zip_end, zip_left}
use Rattle.kat_node.proofs.reading.each_stated.Goals as goal

pub returns-in_err-item-clause-refused : goal.returns-in_err-item-clause-refused
returns-in_err-item-clause-refused c =
    let xs = c.args.components.now in
    let ys = c.args.values.now in
    let i = c.loop-i.i in
    let x = c.index-components-i.result in
    let y = c.index-values-i.result in
    let inside : i < length xs = search rules in
    let is : x ≡ get_or xs i x = search rules in
    let within : i < length ys = search rules in
    let it : y ≡ get_or ys i y = search rules in
    let e = c.in_err-item.field-0.0 in
    handed c.from_residual.result e _ c.from_residual.ensures.1
    (read_refused pair_stated_faults pair_stated_said (zipped (map component_form xs) (map view ys)) i (zipped (map component_form (drop i xs)) (map view (drop i ys)))
    (zipped (map component_form (drop (i + 1) xs)) (map view (drop (i + 1) ys))) c.loop-i.all.items (component_form x, view y) e c.loop-i.invariant
    (zip_left component_form view xs ys i x y inside is within it) (c.in_err-item.ensures.err (stated_faults (component_form x) (view y)) c.stated.ensures.refused))

pub returns-clause-said : goal.returns-clause-said
returns-clause-said c =
    let xs = c.args.components.now in
    let ys = c.args.values.now in
    let i = c.loop-i.i in
    let past : min (length xs) (length ys) ≤ i = search rules in
    let all = read_all pair_stated_faults pair_stated_said (zipped (map component_form xs) (map view ys)) i (zipped (map component_form (drop i xs)) (map view (drop i ys)))
    c.loop-i.all.items c.loop-i.invariant (zip_end component_form view xs ys i past) in
    search rules
