use Rattle.std.proofs.Common.{◌≡◌, ◌∙◌, length, rules}
use Rattle.std.specs.Vec.{vec_len}
use Rattle.kat_histories.specs.Places.{picked}
use Rattle.kat_hist.specs.Arranging.{respects_ranks}
use Rattle.kat_type.specs.Types.{type_form}
use Rattle.kat_hist.proofs.Gathering.{gathers_known, gathers_new, none_known, some_known, true_by}
use Rattle.kat_hist.proofs.refuting.gather.Goals as goal

pub returns-then-is_empty : goal.returns-then-is_empty
returns-then-is_empty c = λ orders g.
    let long : vec_len c.args.answers.now ≡ length c.args.answers.now.items = search rules in
    gathers_new (type_form c.args.ty.now) c.args.asks.now orders (picked c.args.ones.now c.args.order.now) c.args.answers.now.items c.push_answers.new.answers.items c.deref.result.now
    (true_by c.respects_ranks.result (respects_ranks (type_form c.args.ty.now) (picked c.args.ones.now c.args.order.now)) c.respects_ranks.ensures c.if-not-respects_ranks.false)
    (none_known (vec_len c.args.answers.now) c.args.answers.now.items c.is_empty.result long c.is_empty.ensures c.if-is_empty.true)
    (c.deref.ensures.value ∙ c.in_ok-slots.ensures.slots) c.in_ok-push_answers.ensures g

pub returns : goal.returns
returns c = λ orders g.
    let long : vec_len c.args.answers.now ≡ length c.args.answers.now.items = search rules in
    gathers_known (type_form c.args.ty.now) c.args.asks.now orders (picked c.args.ones.now c.args.order.now) c.args.answers.now.items c.in_ok-slots.slots.items c.deref-2.result.now c.deref-3.result.now c.are_known.result
    (true_by c.respects_ranks.result (respects_ranks (type_form c.args.ty.now) (picked c.args.ones.now c.args.order.now)) c.respects_ranks.ensures c.if-not-respects_ranks.false)
    (some_known (vec_len c.args.answers.now) c.args.answers.now.items c.is_empty.result long c.is_empty.ensures c.if-is_empty.false)
    c.in_ok-slots.ensures.slots c.deref-2.ensures.value c.deref-3.ensures.value c.are_known.ensures g
