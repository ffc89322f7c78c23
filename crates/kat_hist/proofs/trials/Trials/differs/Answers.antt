use Rattle.std.proofs.Common.{ap}
use Rattle.kat_design.specs.Designs.{design_form}
use Rattle.kat_type.specs.Types.{type_form}
use Rattle.kat_hist.proofs.Made.{decides_for}
use Rattle.kat_hist.proofs.trials.Trials.differs.Goals as goal

pub returns-clause-decides : goal.returns-clause-decides
returns-clause-decides c =
    decides_for (type_form c.self.inside.ty.now) (type_form c.args.self.now) (design_form c.args.design.now) c.self.inside.whole c.args.number c.differs_by_card.result
    (ap type_form c.self.view_is) c.self.invariant.all c.differs_by_card.ensures.decides
