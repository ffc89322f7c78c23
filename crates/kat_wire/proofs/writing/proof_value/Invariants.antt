use Rattle.std.proofs.Common.{map, take}
use Rattle.serde_json.specs.View.{view}
use Rattle.kat_design.specs.Sorted.{EachHas}
use Rattle.kat_refute.specs.Lines.{lines_of}
use Rattle.kat_wire.specs.Printed.{lines_data}
use Rattle.kat_wire.specs.WrittenParts.{HasSizedNumbers}
use Rattle.kat_json.proofs.WritingLists.{Printed}
use Rattle.kat_wire.proofs.writing.proof_value.Given as goal

abbrev pub invariant-loop-lines : goal.invariant-loop-lines
invariant-loop-lines l = Printed (λ lines. lines_data (lines_of lines)) (λ lines. EachHas HasSizedNumbers (lines_of lines)) (map view l.values.items) (take l.lines-index l.lists)
