use Rattle.std.proofs.Common.{map, take}
use Rattle.serde_json.specs.View.{view}
use Rattle.kat_wire.specs.FileForms.{IsFileMultiplier}
use Rattle.kat_json.specs.Printed.{integer_data}
use Rattle.kat_json.proofs.WritingLists.{Printed}
use Rattle.kat_wire.proofs.writing.multipliers_value.Given as goal

abbrev pub invariant-loop-multiplier : goal.invariant-loop-multiplier
invariant-loop-multiplier l = Printed (integer_data) (IsFileMultiplier) (map view l.values.items) (take l.multiplier-index l.multipliers)
