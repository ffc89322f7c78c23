use Rattle.std.proofs.Common.{arith}
use Rattle.kat_cli.proofs.Ending.{on_err}
use Rattle.kat_cli.proofs.TextLines.{lines_cut, lines_on}
use Rattle.kat_world.specs.Written.{IsCutShort}
use Rattle.kat_cli.proofs.printing.write_lines.Goals as goal

pub returns-in_err-emit-clause-err : goal.returns-in_err-emit-clause-err
returns-in_err-emit-clause-err g c =
    on_err c.from_residual.result (IsCutShort (g.K.Sink.written c.args.out.now) (g.K.Sink.written c.emit.new.out) c.args.text.now)
    (lines_cut c.args.text.now c.lines.rest.now c.split_at.result.0.now c.split_at.result.1.now c.first_line.result
    (g.K.Sink.written c.args.out.now) (g.K.Sink.written c.lines.out) (g.K.Sink.written c.emit.new.out) c.lines.invariant.going c.split_at.ensures.front c.in_err-emit.ensures.err)

pub lines-preserved : goal.lines-preserved
lines-preserved g c = record {
  going =
      lines_on c.args.text.now c.lines.rest.now c.split_at.result.0.now c.split_at.result.1.now c.first_line.result
      (g.K.Sink.written c.args.out.now) (g.K.Sink.written c.lines.out) (g.K.Sink.written c.emit.new.out) c.lines.invariant.going c.split_at.ensures.front c.split_at.ensures.back
      c.in_ok-emit.ensures.ok;
  later = omega (arith, c.lines.invariant.later, c.emit.ensures.later);
}
