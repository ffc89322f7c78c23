use Rattle.kat_design.specs.Designs.{design_form}
use Rattle.kat_step.proofs.Acting.{Ran}
use Rattle.kat_step.proofs.steps.stepped.Given as goal

abbrev pub invariant-actions : goal.invariant-actions
invariant-actions l = Ran (design_form l.design) l.node l.actions l.after l.action-index
