use Rattle.std.proofs.Common.{drop, map}
use Rattle.kat_design.specs.Designs.{component_form}
use Rattle.kat_design.specs.Faults.{component_faults}
use Rattle.kat_sort_check.proofs.Firsts.{EachLeft}
use Rattle.kat_sort_check.proofs.checking.components_fault.Given as goal

abbrev pub invariant-loop-i : goal.invariant-loop-i
invariant-loop-i l = EachLeft (component_faults l.ops) (map component_form l.components) l.i (map component_form (drop l.i l.components))
