use Rattle.std.proofs.Common.{List, map, subst, sym}
use Rattle.kat_design.proofs.Accepted.{well_sorted}
use Rattle.kat_design.specs.Designs.{ask_form, component_form, design_form}
use Rattle.kat_design.specs.Sorted.{EachHas}
use Rattle.kat_design.specs.declared.designs.Ask.{Ask}
use Rattle.kat_design.specs.declared.designs.Component.{Component}
use Rattle.kat_design_json.specs.WrittenParts.{HasWrittenConstants, HasWrittenStarts}
use Rattle.kat_design_json.proofs.PrintedDesigns.{asks_written, components_written}
use Rattle.kat_design_json.proofs.printing.design_value.Goals as goal

pub components_value-requires : goal.components_value-requires
components_value-requires c =
    let d = design_form c.args.design.now in
    let sorted = well_sorted d c.requires in
    subst (λ (xs : List Component). EachHas HasWrittenStarts (map component_form xs)) (sym c.as_slice.ensures) (components_written d.sig.ops d.components sorted.components)

pub asks_value-requires : goal.asks_value-requires
asks_value-requires c =
    let d = design_form c.args.design.now in
    let sorted = well_sorted d c.requires in
    subst (λ (xs : List Ask). EachHas HasWrittenConstants (map ask_form xs)) (sym c.as_slice-2.ensures) (asks_written d.components d.asks d.sig.queries sorted.asks)
