use Rattle.std.proofs.lemmas.Result.{IfErr-weaker}
use Rattle.kat_design.specs.Designs.{design_form}
use Rattle.kat_share_step.specs.Steps.{IsActionRefused, IsNotStepped}
use Rattle.kat_share_step.proofs.Refusing.{action_not_stepped, gap_not_stepped}
use Rattle.kat_share_step.proofs.steps.stepped_share.Goals as goal

pub returns-in-Err-clause-refused : goal.returns-in-Err-clause-refused
returns-in-Err-clause-refused c = gap_not_stepped (design_form c.args.design.now) c.args.share c.args.packets.now c.args.actions.now c.in-Err.error c.in-Err.ensures.refused

pub returns-clause-refused : goal.returns-clause-refused
returns-clause-refused c =
    let d = design_form c.args.design.now in
    IfErr-weaker c.with_share_actions.result (IsActionRefused d c.in-Ok.merged c.args.actions.now) (IsNotStepped d c.args.share c.args.packets.now c.args.actions.now)
    (λ error is. action_not_stepped d c.args.share c.in-Ok.merged c.args.packets.now c.args.actions.now error c.in-Ok.ensures.merged c.in-Ok.ensures.covered is)
    c.with_share_actions.ensures.refused
