use Rattle.std.proofs.Common.{ℕ, List, ◌∙◌, subst}
use Rattle.kat_cli.specs.Ending.{Prints}
use Rattle.kat_cli.specs.declared.status.Status.TheVariants.{Done}
use Rattle.kat_cli.proofs.sample_command.sum_up.Goals as goal

pub returns-in-Ok-clause-prints : goal.returns-in-Ok-clause-prints
returns-in-Ok-clause-prints g c =
    subst (λ (text : List ℕ). Prints text Done (record {
      written = g.K.Sink.written c.args.out.now;
      written_after = g.K.Sink.written c.print.new.out;
      faults = g.K.Sink.faults c.args.out.now;
      faults_after = g.K.Sink.faults c.print.new.out;
    }) c.print.result)
    (c.deref.ensures.value ∙ c.in-Ok.ensures) c.print.ensures.prints
