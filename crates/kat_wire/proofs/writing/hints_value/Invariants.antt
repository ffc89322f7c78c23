use Rattle.std.proofs.Common.{map, take}
use Rattle.serde_json.specs.View.{view}
use Rattle.kat_json.specs.Printed.{natural}
use Rattle.kat_wire.specs.FileForms.{IsIndex}
use Rattle.kat_json.proofs.WritingLists.{Printed}
use Rattle.kat_wire.proofs.writing.hints_value.Given as goal

abbrev pub invariant-loop-hint : goal.invariant-loop-hint
invariant-loop-hint l = Printed natural IsIndex (map view l.values.items) (take l.hint-index l.hints)
