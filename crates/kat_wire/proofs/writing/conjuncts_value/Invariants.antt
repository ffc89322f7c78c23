use Rattle.std.proofs.Common.{map, take}
use Rattle.serde_json.specs.View.{view}
use Rattle.kat_wire.specs.FileForms.{HasOnlyIndices}
use Rattle.kat_wire.specs.Printed.{conjunct_data}
use Rattle.kat_json.proofs.WritingLists.{Printed}
use Rattle.kat_wire.proofs.writing.conjuncts_value.Given as goal

abbrev pub invariant-loop-conjunct : goal.invariant-loop-conjunct
invariant-loop-conjunct l = Printed (conjunct_data) (HasOnlyIndices) (map view l.values.items) (take l.conjunct-index l.conjuncts)
