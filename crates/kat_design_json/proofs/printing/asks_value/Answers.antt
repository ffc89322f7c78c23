use Rattle.std.proofs.Common.{◌≡◌, ◌<◌, get_or, length, rules}
use Rattle.kat_design.specs.Designs.{ask_form}
use Rattle.kat_design_json.specs.WrittenParts.{HasWrittenConstants}
use Rattle.kat_json.proofs.PrintedParts.{each_image}
use Rattle.kat_design_json.proofs.printing.asks_value.Goals as goal

pub ask_value-requires : goal.ask_value-requires
ask_value-requires c =
    let xs = c.args.asks.now in
    let x = c.index-asks-i.result in
    let inside : c.loop-i.i < length xs = search rules in
    let is : x ≡ get_or xs c.loop-i.i x = search rules in
    each_image HasWrittenConstants ask_form xs c.loop-i.i x c.requires inside is
