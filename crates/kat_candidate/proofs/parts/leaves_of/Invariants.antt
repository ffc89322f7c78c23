use Rattle.std.proofs.Common.{◌≡◌, ◌++◌, drop, map}
use Rattle.kat_design.specs.Designs.{component_form}
use Rattle.kat_candidate.specs.Parts.{leaves_of}
use Rattle.kat_candidate.proofs.parts.leaves_of.Given as goal

abbrev pub invariant-loop-i : goal.invariant-loop-i
invariant-loop-i l = l.leaves.items ++ leaves_of l.i (map component_form (drop l.i l.components)) ≡ leaves_of 0 (map component_form l.components)
