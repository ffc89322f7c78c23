use Rattle.std.proofs.Common.{map, take}
use Rattle.serde_json.specs.View.{view}
use Rattle.kat_refute.specs.Lines.{line_of}
use Rattle.kat_wire.specs.Printed.{line_data}
use Rattle.kat_wire.specs.WrittenParts.{HasSizedNumbers}
use Rattle.kat_json.proofs.WritingLists.{Printed}
use Rattle.kat_wire.proofs.writing.lines_value.Given as goal

abbrev pub invariant-loop-line : goal.invariant-loop-line
invariant-loop-line l = Printed (λ line. line_data (line_of line)) (λ line. HasSizedNumbers (line_of line)) (map view l.values.items) (take l.line-index l.lines)
