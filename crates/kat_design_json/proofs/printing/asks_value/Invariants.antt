use Rattle.std.proofs.Common.{◌≡◌, map, take}
use Rattle.serde_json.specs.View.{view}
use Rattle.kat_design.specs.Designs.{ask_form}
use Rattle.kat_design_json.specs.PrintedDesigns.{ask_data}
use Rattle.kat_design_json.proofs.printing.asks_value.Given as goal

abbrev pub invariant-loop-i : goal.invariant-loop-i
invariant-loop-i l = map view l.values.items ≡ map ask_data (map ask_form (take l.i l.asks))
