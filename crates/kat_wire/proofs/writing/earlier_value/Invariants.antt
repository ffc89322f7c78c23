use Rattle.std.proofs.Common.{◌<◌, map, take}
use Rattle.std.specs.Prelude.{◌^◌}
use Rattle.serde_json.specs.View.{view}
use Rattle.kat_wire.specs.Printed.{passed_over_data}
use Rattle.kat_json.proofs.WritingLists.{Printed}
use Rattle.kat_wire.proofs.writing.earlier_value.Given as goal

abbrev pub invariant-loop-item : goal.invariant-loop-item
invariant-loop-item l = Printed (passed_over_data) (λ item. item.0 < 2 ^ 64) (map view l.values.items) (take l.item-index l.earlier)
