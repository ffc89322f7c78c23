use Rattle.std.proofs.Common.{◌≡◌, map, take}
use Rattle.serde_json.specs.View.{view}
use Rattle.kat_design_json.specs.PrintedDesigns.{operation_data}
use Rattle.kat_design_json.proofs.signature_printing.operations_value.Given as goal

abbrev pub invariant-loop-i : goal.invariant-loop-i
invariant-loop-i l = map view l.values.items ≡ map operation_data (take l.i l.ops)
