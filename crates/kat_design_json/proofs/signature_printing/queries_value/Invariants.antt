use Rattle.std.proofs.Common.{◌≡◌, map, take}
use Rattle.serde_json.specs.View.{view}
use Rattle.kat_design_json.specs.PrintedDesigns.{query_data}
use Rattle.kat_design_json.proofs.signature_printing.queries_value.Given as goal

abbrev pub invariant-loop-i : goal.invariant-loop-i
invariant-loop-i l = map view l.values.items ≡ map query_data (take l.i l.queries)
