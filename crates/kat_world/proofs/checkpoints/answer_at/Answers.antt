use Rattle.std.proofs.Common.{Option, subst, sym}
use Rattle.std.specs.Option.{IfSome}
use Rattle.kat_type.specs.Types.{type_form}
use Rattle.kat_world.specs.Checkpoints.{IsReached}
use Rattle.kat_world.specs.declared.checkpoints.Checkpoint.{Checkpoint}
use Rattle.kat_world.proofs.Reaching.{reached_at, reached_with}
use Rattle.kat_world.proofs.Stepping.{whole_fits}
use Rattle.kat_world.proofs.checkpoints.answer_at.Goals as goal

pub advanced-requires-clause-old : goal.advanced-requires-clause-old
advanced-requires-clause-old c =
    subst (λ (point : Option Checkpoint). IfSome point (IsReached (type_form c.args.ty.now) c.args.order.now)) (sym c.take_out-old.ensures.taken)
    (reached_at (type_form c.args.ty.now) c.args.order.now c.args.points.now.items c.args.place c.requires.points)

pub answer-answer-requires-clause-state : goal.answer-answer-requires-clause-state
answer-answer-requires-clause-state c =
    rw c.deref.ensures.value
    (whole_fits (type_form c.args.ty.now) c.in_ok-point.point.latest c.args.order.now c.in_ok-point.point.state.items c.requires.limits c.requires.order c.requires.few c.in_ok-point.ensures.reached)

pub returns-clause-points : goal.returns-clause-points
returns-clause-points c =
    reached_with (type_form c.args.ty.now) c.args.order.now c.args.points.now.items c.take_out-old.new.points.items c.put_back.new.points.items c.args.place c.in_ok-point.point
    c.requires.points c.take_out-old.ensures.left c.put_back.ensures c.in_ok-point.ensures.reached
