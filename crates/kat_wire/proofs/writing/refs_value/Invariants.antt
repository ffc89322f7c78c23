use Rattle.std.proofs.Common.{map, take}
use Rattle.serde_json.specs.View.{view}
use Rattle.kat_wire.specs.FileForms.{HasIndices}
use Rattle.kat_wire.specs.Printed.{ref_data}
use Rattle.kat_json.proofs.WritingLists.{Printed}
use Rattle.kat_wire.proofs.writing.refs_value.Given as goal

abbrev pub invariant-loop-leaf : goal.invariant-loop-leaf
invariant-loop-leaf l = Printed (ref_data) (HasIndices) (map view l.values.items) (take l.leaf-index l.leaves)
