use Rattle.std.proofs.Common.{arith, take}
use Rattle.kat_design.specs.Designs.{design_form}
use Rattle.kat_world.specs.Written.{IsCutShort}
use Rattle.kat_world.proofs.Going.{on_err}
use Rattle.kat_delta.specs.Lines.{delta_lines_of}
use Rattle.kat_delta.specs.Worlds.{delta_world_after, done_by_lines, first_delta_world}
use Rattle.kat_delta.proofs.Loops.{cut_in, few_enough, knows_in, ran_first, ran_next, ran_stopped}
use Rattle.kat_delta.proofs.writing.deltas.Goals as goal

pub loop-line-init : goal.loop-line-init
loop-line-init g c = record {
  ran = ran_first (design_form c.args.design.now) c.args.script.now.replicas c.as_slice-lines.result.now c.in_ok-running.running (g.K.Sink.written c.args.out.now) c.in_ok-running.ensures;
  later = omega arith;
}

pub run_line-requires-clause-ready : goal.run_line-requires-clause-ready
run_line-requires-clause-ready g c =
    let n = c.args.script.now.replicas in
    let lines = c.as_slice-lines.result.now in
    let i = c.loop-line.line-index in
    record {
      w = delta_world_after (first_delta_world n) (take i lines);
      past = done_by_lines (take i lines);
      known = knows_in (design_form c.args.design.now) c.loop-line.running n i lines c.args.script.now.lines c.line-item.result c.as_slice-lines.ensures c.requires.judged.lines
          c.requires.judged.few_replicas (few_enough c.args.script.now.lines c.requires.judged.few_lines) c.loop-line-test.true c.line-item.is c.loop-line.invariant.ran.runs;
    }

pub returns-in_err-run_line-clause-err : goal.returns-in_err-run_line-clause-err
returns-in_err-run_line-clause-err g c =
    let d = design_form c.args.design.now in
    let n = c.args.script.now.replicas in
    let lines = c.as_slice-lines.result.now in
    let i = c.loop-line.line-index in
    let known = knows_in d c.loop-line.running n i lines c.args.script.now.lines c.line-item.result c.as_slice-lines.ensures c.requires.judged.lines
    c.requires.judged.few_replicas (few_enough c.args.script.now.lines c.requires.judged.few_lines) c.loop-line-test.true c.line-item.is c.loop-line.invariant.ran.runs in
    on_err c.from_residual-in_err-run_line.result (IsCutShort (g.K.Sink.written c.args.out.now) (g.K.Sink.written c.run_line.new.out) (delta_lines_of d c.args.script.now))
    (cut_in d n lines c.args.script.now.lines (g.K.Sink.written c.args.out.now) (g.K.Sink.written c.run_line.new.out) c.as_slice-lines.ensures
    (ran_stopped d n i lines c.line-item.result c.loop-line.running (g.K.Sink.written c.args.out.now) (g.K.Sink.written c.loop-line.out) (g.K.Sink.written c.run_line.new.out) c.loop-line.invariant.ran c.loop-line-test.true c.line-item.is
    (c.in_err-run_line.ensures.err (delta_world_after (first_delta_world n) (take i lines)) (done_by_lines (take i lines)) known)))

pub loop-line-preserved : goal.loop-line-preserved
loop-line-preserved g c =
    let d = design_form c.args.design.now in
    let n = c.args.script.now.replicas in
    let lines = c.as_slice-lines.result.now in
    let i = c.loop-line.line-index in
    let w = delta_world_after (first_delta_world n) (take i lines) in
    let past = done_by_lines (take i lines) in
    let known = knows_in d c.loop-line.running n i lines c.args.script.now.lines c.line-item.result c.as_slice-lines.ensures c.requires.judged.lines
    c.requires.judged.few_replicas (few_enough c.args.script.now.lines c.requires.judged.few_lines) c.loop-line-test.true c.line-item.is c.loop-line.invariant.ran.runs in
    record {
      ran = ran_next d n i lines c.line-item.result c.loop-line.running c.run_line.new.running (g.K.Sink.written c.args.out.now) (g.K.Sink.written c.loop-line.out) (g.K.Sink.written c.run_line.new.out) c.loop-line.invariant.ran c.loop-line-test.true c.line-item.is
          (c.in_ok-run_line.ensures.followed w past known) (c.in_ok-run_line.ensures.ok w past known);
      later = omega (arith, c.loop-line.invariant.later, c.run_line.ensures.later);
    }
