use Rattle.std.specs.Prelude.{codes}
use Rattle.kat_design.specs.Designs.{design_form}
use Rattle.kat_world.specs.Lines.{lines_of}
use Rattle.kat_cli.proofs.Ending.{cut_first, cut_second, on_err, on_err_too}
use Rattle.kat_cli.proofs.converge_command.write_output.Goals as goal

pub returns-in_err-emit-clause-err : goal.returns-in_err-emit-clause-err
returns-in_err-emit-clause-err g c =
    on_err c.from_residual.result _
    (cut_first _ _ (codes "unproved\n") (lines_of (design_form c.args.design.now) c.args.script.now) c.in_err-emit.ensures.err)

pub returns-clause-err : goal.returns-clause-err
returns-clause-err g c =
    on_err_too c.converge.result _ _ c.converge.ensures.err
    (λ cut. cut_second (g.K.Sink.written c.args.out.now) (g.K.Sink.written c.emit.new.out) (g.K.Sink.written c.converge.new.out) (codes "unproved\n")
    (lines_of (design_form c.args.design.now) c.args.script.now) c.in_ok-emit.ensures.ok cut)
