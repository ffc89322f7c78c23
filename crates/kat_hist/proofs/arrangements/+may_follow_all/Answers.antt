use Rattle.kat_hist.specs.Arranging.{may_follow}
use Rattle.kat_type.specs.Types.{type_form}
use Rattle.kat_hist.proofs.Picking.{all_else, all_then}
use Rattle.kat_hist.proofs.arrangements.+may_follow_all.Goals as goal

pub returns-then-may_follow : goal.returns-then-may_follow
returns-then-may_follow t c =
    all_then (may_follow (type_form c.args.ty.now) c.args.earlier.now) c.args.ones.now c.args.order.now c.index-ones-later.result c.may_follow.result c.may_follow_all.result
    c.in-len1-up.len_at_least c.requires c.index-ones-later.is c.may_follow.ensures c.if-may_follow.true c.may_follow_all.ensures

pub returns-else-may_follow : goal.returns-else-may_follow
returns-else-may_follow t c =
    all_else (may_follow (type_form c.args.ty.now) c.args.earlier.now) c.args.ones.now c.args.order.now c.index-ones-later.result c.may_follow.result
    c.in-len1-up.len_at_least c.requires c.index-ones-later.is c.may_follow.ensures c.if-may_follow.false
