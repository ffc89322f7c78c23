use Rattle.std.proofs.Common.{drop, map}
use Rattle.serde_json.specs.View.{view}
use Rattle.kat_design.specs.Designs.{component_form}
use Rattle.kat_node.specs.StateForms.{pair_stated_faults, pair_stated_said, zipped}
use Rattle.kat_json.proofs.Refusing.{ReadSoFar}
use Rattle.kat_node.proofs.reading.each_stated.Given as goal

abbrev pub invariant-loop-i : goal.invariant-loop-i
invariant-loop-i l = ReadSoFar pair_stated_faults pair_stated_said (zipped (map component_form l.components) (map view l.values)) l.i
    (zipped (map component_form (drop l.i l.components)) (map view (drop l.i l.values))) l.all.items
