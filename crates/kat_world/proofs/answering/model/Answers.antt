use Rattle.std.proofs.Common.{◌+◌, List, drop, arith, subst, sym}
use Rattle.kat_type.specs.Types.{type_form}
use Rattle.kat_type.specs.declared.done.Done.{Done}
use Rattle.kat_world.specs.Checkpoints.{AreReached}
use Rattle.kat_world.specs.Model.{model_lines}
use Rattle.kat_world.specs.Seen.{seen}
use Rattle.kat_world.specs.Written.{IsCutShort}
use Rattle.kat_world.proofs.Going.{begins_on, goes_on, next_line, next_little, on_err, order_few_on, order_small_on, stops_on}
use Rattle.kat_world.proofs.Reaching.{none_reached}
use Rattle.kat_world.proofs.answering.model.Goals as goal

pub run_line-requires-clause-order : goal.run_line-requires-clause-order
run_line-requires-clause-order g c =
    order_small_on (type_form c.args.ty.now) c.args.script.now c.as_slice-lines.result.now c.in_ok-order.order.items c.deref.result.now c.requires.judged c.as_slice-lines.ensures
    c.in_ok-order.ensures c.deref.ensures.value

pub run_line-requires-clause-few : goal.run_line-requires-clause-few
run_line-requires-clause-few g c =
    order_few_on (type_form c.args.ty.now) c.args.script.now c.as_slice-lines.result.now c.in_ok-order.order.items c.deref.result.now c.requires.judged c.as_slice-lines.ensures
    c.in_ok-order.ensures c.deref.ensures.value

pub run_line-requires-clause-points : goal.run_line-requires-clause-points
run_line-requires-clause-points g c =
    subst (λ (ds : List Done). AreReached (type_form c.args.ty.now) ds c.loop-line.points.items) (sym c.deref.ensures.value) c.loop-line.invariant.points

pub run_line-requires-clause-line : goal.run_line-requires-clause-line
run_line-requires-clause-line g c =
    next_little (type_form c.args.ty.now) c.args.script.now.replicas c.as_slice-lines.result.now (drop c.loop-line.line-index c.as_slice-lines.result.now)
    (drop (c.loop-line.line-index + 1) c.as_slice-lines.result.now) c.line-item.result (seen c.loop-line.holders) (g.K.Sink.written c.args.out.now) (g.K.Sink.written c.loop-line.out)
    c.loop-line.invariant.going (next_line c.as_slice-lines.result.now c.loop-line.line-index c.line-item.result c.loop-line-test.true c.line-item.is)

pub returns-in_err-run_line-clause-err : goal.returns-in_err-run_line-clause-err
returns-in_err-run_line-clause-err g c =
    on_err c.from_residual-in_err-run_line.result
    (IsCutShort (g.K.Sink.written c.args.out.now) (g.K.Sink.written c.run_line.new.out) (model_lines (type_form c.args.ty.now) c.args.script.now))
    (stops_on (type_form c.args.ty.now) c.args.script.now c.as_slice-lines.result.now (drop c.loop-line.line-index c.as_slice-lines.result.now)
    (drop (c.loop-line.line-index + 1) c.as_slice-lines.result.now) c.in_ok-order.order.items c.deref.result.now c.in_ok-sig.sig c.line-item.result (seen c.loop-line.holders)
    (g.K.Sink.written c.args.out.now) (g.K.Sink.written c.loop-line.out) (g.K.Sink.written c.run_line.new.out) c.requires.judged c.as_slice-lines.ensures c.in_ok-order.ensures
    c.deref.ensures.value c.in_ok-sig.ensures c.loop-line.invariant.going
    (next_line c.as_slice-lines.result.now c.loop-line.line-index c.line-item.result c.loop-line-test.true c.line-item.is) c.in_err-run_line.ensures.err)

pub loop-line-preserved : goal.loop-line-preserved
loop-line-preserved g c = record {
  going =
      goes_on (type_form c.args.ty.now) c.args.script.now c.as_slice-lines.result.now (drop c.loop-line.line-index c.as_slice-lines.result.now)
      (drop (c.loop-line.line-index + 1) c.as_slice-lines.result.now) c.in_ok-order.order.items c.deref.result.now c.in_ok-sig.sig c.line-item.result (seen c.loop-line.holders)
      (seen c.run_line.new.holders) (g.K.Sink.written c.args.out.now) (g.K.Sink.written c.loop-line.out) (g.K.Sink.written c.run_line.new.out) c.requires.judged c.as_slice-lines.ensures
      c.in_ok-order.ensures c.deref.ensures.value c.in_ok-sig.ensures c.loop-line.invariant.going
      (next_line c.as_slice-lines.result.now c.loop-line.line-index c.line-item.result c.loop-line-test.true c.line-item.is) c.in_ok-run_line.ensures.followed c.in_ok-run_line.ensures.ok;
  later = omega (arith, c.loop-line.invariant.later, c.run_line.ensures.later);
  points = subst (λ (ds : List Done). AreReached (type_form c.args.ty.now) ds c.run_line.new.points.items) c.deref.ensures.value c.in_ok-run_line.ensures.points;
}

pub loop-line-init : goal.loop-line-init
loop-line-init g c = record {
  going =
      begins_on (type_form c.args.ty.now) c.args.script.now c.as_slice-lines.result.now (seen c.in_ok-holders.holders) (g.K.Sink.written c.args.out.now) c.requires.judged
      c.as_slice-lines.ensures c.in_ok-holders.ensures;
  later = omega arith;
  points = none_reached (type_form c.args.ty.now) c.in_ok-order.order.items c.args.script.now.replicas c.in_ok-points.points.items c.in_ok-points.ensures;
}
