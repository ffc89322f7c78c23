use Rattle.std.proofs.Common.{◌≡◌, ◌<◌, get_or, length, rules}
use Rattle.kat_design.specs.Designs.{component_form}
use Rattle.kat_design_json.specs.WrittenParts.{HasWrittenStarts}
use Rattle.kat_json.proofs.PrintedParts.{each_image}
use Rattle.kat_design_json.proofs.printing.components_value.Goals as goal

pub component_value-requires : goal.component_value-requires
component_value-requires c =
    let xs = c.args.components.now in
    let x = c.index-components-i.result in
    let inside : c.loop-i.i < length xs = search rules in
    let is : x ≡ get_or xs c.loop-i.i x = search rules in
    each_image HasWrittenStarts component_form xs c.loop-i.i x c.requires inside is
