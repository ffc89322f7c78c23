use Rattle.kat_type.specs.Types.{type_form}
use Rattle.kat_hist.proofs.Picking.{respects_else, respects_then}
use Rattle.kat_hist.proofs.arrangements.+respects_ranks.Goals as goal

pub returns-then-may_follow_all : goal.returns-then-may_follow_all
returns-then-may_follow_all t c =
    respects_then (type_form c.args.ty.now) c.args.ones.now c.args.order.now c.index-ones-first.result c.may_follow_all.result c.respects_ranks.result
    c.in-len1-up.len_at_least c.requires c.index-ones-first.is c.may_follow_all.ensures c.if-may_follow_all.true c.respects_ranks.ensures

pub returns-else-may_follow_all : goal.returns-else-may_follow_all
returns-else-may_follow_all t c =
    respects_else (type_form c.args.ty.now) c.args.ones.now c.args.order.now c.index-ones-first.result c.may_follow_all.result
    c.in-len1-up.len_at_least c.requires c.index-ones-first.is c.may_follow_all.ensures c.if-may_follow_all.false
