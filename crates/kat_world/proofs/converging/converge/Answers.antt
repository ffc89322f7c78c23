use Rattle.std.proofs.Common.{◌+◌, drop, arith}
use Rattle.kat_design.specs.Designs.{design_form}
use Rattle.kat_world.specs.Lines.{lines_of}
use Rattle.kat_world.specs.Run.{kept}
use Rattle.kat_world.specs.Written.{IsCutShort}
use Rattle.kat_world.proofs.DesignLaws.{lawful, small_design}
use Rattle.kat_world.proofs.Going.{next_line, on_err}
use Rattle.kat_world.proofs.Ran.{ran_next, ran_nothing, ran_stopped, ready_next}
use Rattle.kat_world.proofs.converging.converge.Goals as goal

pub run_line-requires-clause-small : goal.run_line-requires-clause-small
run_line-requires-clause-small g c = small_design (design_form c.args.design.now) c.requires.sorted

pub run_line-requires-clause-ready : goal.run_line-requires-clause-ready
run_line-requires-clause-ready g c =
    ready_next (design_form c.args.design.now) c.args.script.now.replicas c.as_slice-lines.result.now (drop c.loop-line.line-index c.as_slice-lines.result.now)
    (drop (c.loop-line.line-index + 1) c.as_slice-lines.result.now) c.line-item.result (kept c.loop-line.running) (g.K.Sink.written c.args.out.now) (g.K.Sink.written c.loop-line.out)
    (lawful (design_form c.args.design.now) c.requires.sorted) c.loop-line.invariant.ran
    (next_line c.as_slice-lines.result.now c.loop-line.line-index c.line-item.result c.loop-line-test.true c.line-item.is)

pub returns-in_err-run_line-clause-err : goal.returns-in_err-run_line-clause-err
returns-in_err-run_line-clause-err g c =
    on_err c.from_residual-in_err-run_line.result
    (IsCutShort (g.K.Sink.written c.args.out.now) (g.K.Sink.written c.run_line.new.out) (lines_of (design_form c.args.design.now) c.args.script.now))
    (rw (← c.as_slice-lines.ensures)
    (ran_stopped (design_form c.args.design.now) c.args.script.now.replicas c.as_slice-lines.result.now (drop c.loop-line.line-index c.as_slice-lines.result.now)
    (drop (c.loop-line.line-index + 1) c.as_slice-lines.result.now) c.line-item.result (kept c.loop-line.running) (g.K.Sink.written c.args.out.now) (g.K.Sink.written c.loop-line.out)
    (g.K.Sink.written c.run_line.new.out) (lawful (design_form c.args.design.now) c.requires.sorted) c.loop-line.invariant.ran
    (next_line c.as_slice-lines.result.now c.loop-line.line-index c.line-item.result c.loop-line-test.true c.line-item.is) c.in_err-run_line.ensures.err))

pub loop-line-preserved : goal.loop-line-preserved
loop-line-preserved g c = record {
  ran =
      ran_next (design_form c.args.design.now) c.args.script.now.replicas c.as_slice-lines.result.now (drop c.loop-line.line-index c.as_slice-lines.result.now)
      (drop (c.loop-line.line-index + 1) c.as_slice-lines.result.now) c.line-item.result (kept c.loop-line.running) (kept c.run_line.new.running) (g.K.Sink.written c.args.out.now)
      (g.K.Sink.written c.loop-line.out) (g.K.Sink.written c.run_line.new.out) (lawful (design_form c.args.design.now) c.requires.sorted) c.loop-line.invariant.ran
      (next_line c.as_slice-lines.result.now c.loop-line.line-index c.line-item.result c.loop-line-test.true c.line-item.is) c.in_ok-run_line.ensures.followed c.in_ok-run_line.ensures.ok;
  later = omega (arith, c.loop-line.invariant.later, c.run_line.ensures.later);
}

pub loop-line-init : goal.loop-line-init
loop-line-init g c = record {
  ran =
      ran_nothing (design_form c.args.design.now) c.args.script.now c.as_slice-lines.result.now (kept c.in_ok-running.running) (g.K.Sink.written c.args.out.now) c.requires.judged
      c.as_slice-lines.ensures c.in_ok-running.ensures;
  later = omega arith;
}
