use Rattle.std.proofs.Common.{◌≡◌, map, take}
use Rattle.serde_json.specs.View.{view}
use Rattle.kat_design.specs.Designs.{component_form}
use Rattle.kat_design_json.specs.PrintedDesigns.{component_data}
use Rattle.kat_design_json.proofs.printing.components_value.Given as goal

abbrev pub invariant-loop-i : goal.invariant-loop-i
invariant-loop-i l = map view l.values.items ≡ map component_data (map component_form (take l.i l.components))
