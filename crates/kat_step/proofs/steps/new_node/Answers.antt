use Rattle.kat_design.specs.Designs.{design_form}
use Rattle.kat_step.proofs.Acting.{begins_as}
use Rattle.kat_step.proofs.steps.new_node.Goals as goal

pub returns-clause-kept : goal.returns-clause-kept
returns-clause-kept c =
    begins_as (design_form c.args.design.now) c.args.number c.in_ok-new.field-0
    (record { few = c.requires.sorted.few; small = c.requires.sorted.small; components = c.requires.sorted.components; asks = c.requires.sorted.asks }) c.requires.least c.requires.most
    c.in_ok-new.ensures.clock c.in_ok-new.ensures.state
