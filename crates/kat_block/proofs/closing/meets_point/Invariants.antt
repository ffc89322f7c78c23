use Rattle.kat_design.specs.Designs.{design_form}
use Rattle.kat_type.specs.Types.{type_form}
use Rattle.kat_block.proofs.Endings.{NoneMeets}
use Rattle.kat_block.proofs.closing.meets_point.Given as goal

abbrev pub invariant-loop-place : goal.invariant-loop-place
invariant-loop-place l = NoneMeets (type_form l.ty) (design_form l.design) l.block l.effort l.place
