use Rattle.std.proofs.Common.{ap}
use Rattle.kat_design.specs.Designs.{design_form}
use Rattle.kat_type.specs.Types.{type_form}
use Rattle.kat_hist.proofs.Made.{first_for}
use Rattle.kat_hist.proofs.trials.Trials.first_difference.Goals as goal

pub first_among-requires-clause-small : goal.first_among-requires-clause-small
first_among-requires-clause-small c =
    c.accepted_designs_are_small.ensures (design_form c.args.design.now) (c.accepted_designs_are_well_sorted.ensures.accepted (design_form c.args.design.now) c.requires.sorted)

pub returns-clause-first : goal.returns-clause-first
returns-clause-first c =
    first_for (type_form c.self.inside.ty.now) (type_form c.args.self.now) (design_form c.args.design.now) c.self.inside.whole c.first_among.result
    (ap type_form c.self.view_is) c.self.invariant.all c.first_among.ensures.first
