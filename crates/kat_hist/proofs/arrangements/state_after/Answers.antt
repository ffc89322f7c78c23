use Rattle.kat_type.specs.Types.{type_form}
use Rattle.kat_hist.proofs.Picking.{state_fits, stepped_next}
use Rattle.kat_hist.proofs.arrangements.state_after.Goals as goal

pub step-requires-clause-state : goal.step-requires-clause-state
step-requires-clause-state c =
    state_fits (type_form c.args.ty.now) c.args.ones.now c.args.order.now c.loop-place.place-index c.loop-place.slots.items c.requires.limits c.requires.args c.requires.few
    c.loop-place.invariant

pub loop-place-preserved : goal.loop-place-preserved
loop-place-preserved c =
    stepped_next (type_form c.args.ty.now) c.args.ones.now c.args.order.now c.loop-place.place-index c.index-ones-place.result c.loop-place.slots.items c.step.new.state.items
    c.loop-place-test.true c.requires.within c.index-ones-place.is c.loop-place.invariant c.in_ok-step.ensures.ok

pub returns-clause-small : goal.returns-clause-small
returns-clause-small c =
    state_fits (type_form c.args.ty.now) c.args.ones.now c.args.order.now c.loop-place.place-index c.loop-place.slots.items c.requires.limits c.requires.args c.requires.few
    c.loop-place.invariant
