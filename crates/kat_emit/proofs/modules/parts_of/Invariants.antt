use Rattle.std.proofs.Common.{◌≡◌, ◌++◌, drop, map}
use Rattle.kat_design.specs.Designs.{component_form}
use Rattle.kat_emit.specs.Statements.{part_form}
use Rattle.kat_emit.proofs.modules.parts_of.Given as goal

abbrev pub invariant-loop-place : goal.invariant-loop-place
invariant-loop-place l = map part_form l.parts.items ++ map component_form (drop l.place l.components) ≡ map component_form l.fn.design.components
