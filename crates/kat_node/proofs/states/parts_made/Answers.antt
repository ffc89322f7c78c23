use Rattle.std.proofs.Common.{rules, ◌≡◌, ◌<◌, ◌≤◌, ◌+◌, drop, get_or, length, map}
use Rattle.std.specs.Prelude.{min}
use Rattle.kat_design.specs.Designs.{component_form}
use Rattle.kat_replica.specs.Starting.{HasStarts}
use Rattle.kat_json.proofs.PrintedParts.{each_image}
use Rattle.kat_json.proofs.Refusing.{handed, read_all, read_refused}
use Rattle.kat_node.specs.Possible.{pair_faults, pair_made, part_faults}
use Rattle.kat_node.specs.StateForms.{zipped}
use Rattle.kat_node.proofs.Tabled.{side_end, side_left}
use Rattle.kat_node.proofs.states.parts_made.Goals as goal

pub part_made-requires : goal.part_made-requires
part_made-requires c =
    let xs = c.args.components.now in
    let x = c.index-components-i.result in
    let inside : c.loop-i.i < length xs = search rules in
    let is : x ≡ get_or xs c.loop-i.i x = search rules in
    each_image HasStarts component_form xs c.loop-i.i x c.requires inside is

pub returns-in_err-item-clause-refused : goal.returns-in_err-item-clause-refused
returns-in_err-item-clause-refused c =
    let xs = c.args.components.now in
    let ys = c.args.parts.now in
    let i = c.loop-i.i in
    let x = c.index-components-i.result in
    let y = c.index-parts-i.result in
    let inside : i < length xs = search rules in
    let is : x ≡ get_or xs i x = search rules in
    let within : i < length ys = search rules in
    let it : y ≡ get_or ys i y = search rules in
    let e = c.in_err-item.field-0.0 in
    handed c.from_residual.result e _ c.from_residual.ensures.1
    (read_refused pair_faults pair_made (zipped (map component_form xs) ys) i (zipped (map component_form (drop i xs)) (drop i ys))
    (zipped (map component_form (drop (i + 1) xs)) (drop (i + 1) ys)) c.loop-i.made.items (component_form x, y) e c.loop-i.invariant
    (side_left component_form xs ys i x y inside is within it) (c.in_err-item.ensures.err (part_faults (component_form x) y) c.part_made.ensures.refused))

pub returns-clause-said : goal.returns-clause-said
returns-clause-said c =
    let xs = c.args.components.now in
    let ys = c.args.parts.now in
    let i = c.loop-i.i in
    let past : min (length xs) (length ys) ≤ i = search rules in
    read_all pair_faults pair_made (zipped (map component_form xs) ys) i (zipped (map component_form (drop i xs)) (drop i ys))
    c.loop-i.made.items c.loop-i.invariant (side_end component_form xs ys i past)
