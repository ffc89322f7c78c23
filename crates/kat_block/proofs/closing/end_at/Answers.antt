use Rattle.kat_form.specs.Encodings.{encoding}
use Rattle.kat_design.specs.Designs.{design_form}
use Rattle.kat_type.specs.Types.{type_form}
use Rattle.kat_vc.specs.Conditions.{facts_of_condition}
use Rattle.kat_block.proofs.Endings.{if_walk}
use Rattle.kat_block.proofs.closing.end_at.Goals as goal

pub returns : goal.returns
returns c =
    if_walk (encoding c.in_ok-encoded.encoded) c.in_ok-encoded.encoded.numbers c.args.effort c.walk_end.result (facts_of_condition (type_form c.args.ty.now) (design_form c.args.design.now) c.args.relation.now.conjuncts c.args.number)
    c.in_ok-encoded.ensures.is c.in_ok-encoded.ensures.numbers c.walk_end.ensures
