use Rattle.std.proofs.Common.{List, subst}
use Rattle.std.specs.Prelude.{IfOk}
use Rattle.kat_design.specs.Designs.{design_form}
use Rattle.kat_histories.specs.declared.histories.History.{History}
use Rattle.kat_histories.specs.Differing.{Differs}
use Rattle.kat_hist.specs.Firsts.{IsFirstPlace}
use Rattle.kat_type.specs.Types.{type_form}
use Rattle.kat_hist.proofs.differing.first_difference.Goals as goal

pub first_among-requires-clause-small : goal.first_among-requires-clause-small
first_among-requires-clause-small c =
    c.accepted_designs_are_small.ensures (design_form c.args.design.now) (c.accepted_designs_are_well_sorted.ensures.accepted (design_form c.args.design.now) c.requires.sorted)

pub returns : goal.returns
returns c =
    subst (λ (whole : List History). IfOk c.first_among.result (IsFirstPlace (Differs (type_form c.args.ty.now) (design_form c.args.design.now)) whole)) c.in_ok-whole.ensures
    c.first_among.ensures
