use Rattle.std.proofs.Common.{drop, map}
use Rattle.kat_design.specs.Designs.{component_form}
use Rattle.kat_json.proofs.Refusing.{ReadSoFar}
use Rattle.kat_node.specs.Possible.{pair_faults, pair_made}
use Rattle.kat_node.specs.StateForms.{zipped}
use Rattle.kat_node.proofs.states.parts_made.Given as goal

abbrev pub invariant-loop-i : goal.invariant-loop-i
invariant-loop-i l = ReadSoFar pair_faults pair_made (zipped (map component_form l.components) l.parts) l.i
    (zipped (map component_form (drop l.i l.components)) (drop l.i l.parts)) l.made.items
