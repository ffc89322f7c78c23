use Rattle.std.proofs.Common.{◌+◌, arith}
use Rattle.kat_seq.specs.States.{started}
use Rattle.kat_type.specs.Types.{type_form}
use Rattle.kat_world.proofs.Stepping.{state_fits, stepped_next}
use Rattle.kat_world.proofs.checkpoints.step_all.Goals as goal

pub step_known-requires-clause-state : goal.step_known-requires-clause-state
step_known-requires-clause-state c =
    state_fits (type_form c.args.ty.now) c.args.latest.now c.args.order.now c.loop-at.at c.loop-at.state.items c.requires.limits c.requires.order c.requires.few c.loop-at.invariant

pub loop-at-preserved : goal.loop-at-preserved
loop-at-preserved c =
    stepped_next (type_form c.args.ty.now) (started (type_form c.args.ty.now)) c.loop-at.state.items c.step_known.new.state.items c.args.latest.now c.args.order.now
    c.loop-at.at (c.loop-at.at + 1) c.index-order-at.result (omega arith) c.loop-at-test.true c.index-order-at.is c.loop-at.invariant c.in_ok-step_known.ensures
