use Rattle.std.proofs.Common.{map, take}
use Rattle.serde_json.specs.View.{view}
use Rattle.kat_json.specs.Printed.{integer_data}
use Rattle.kat_wire.specs.WrittenParts.{Is32Bits}
use Rattle.kat_json.proofs.WritingLists.{Printed}
use Rattle.kat_wire.proofs.writing.literals_value.Given as goal

abbrev pub invariant-loop-literal : goal.invariant-loop-literal
invariant-loop-literal l = Printed (integer_data) (Is32Bits) (map view l.values.items) (take l.literal-index l.literals)
