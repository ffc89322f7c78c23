use Rattle.std.proofs.Common.{drop}
use Rattle.kat_design.specs.Designs.{design_form}
use Rattle.kat_world.specs.Run.{kept}
use Rattle.kat_world.proofs.Replied.{Replied}
use Rattle.kat_world.proofs.replying.answers.Given as goal

abbrev pub invariant-loop-line : goal.invariant-loop-line
invariant-loop-line l =
    Replied (design_form l.design) l.script.replicas l.lines (drop l.line-index l.lines) (kept l.running) l.answers.items
