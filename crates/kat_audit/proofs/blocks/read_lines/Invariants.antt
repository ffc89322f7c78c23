use Rattle.std.proofs.Common.{length}
use Rattle.kat_design.specs.Designs.{design_form}
use Rattle.kat_type.specs.Types.{type_form}
use Rattle.kat_due.proofs.Within.{InLines}
use Rattle.kat_audit.proofs.blocks.read_lines.Given as goal

abbrev pub invariant-lines : goal.invariant-lines
invariant-lines l = InLines (type_form l.ty) l.sig l.effort (design_form l.design) l.fn.first l.fn.reading l.block l.reading

abbrev pub decreases-lines : goal.decreases-lines
decreases-lines l = length l.reading.left.now
