use Rattle.std.proofs.Common.{refl, ◌∷◌, []}
use Rattle.kat_wire.specs.FileForms.{file_form}
use Rattle.kat_cli.specs.declared.status.Status.TheVariants.{Done}
use Rattle.kat_words.specs.declared.words.Command.TheVariants as command
use Rattle.kat_cli.proofs.DesignFiles.{well_sorted_file}
use Rattle.kat_cli.proofs.Ending.{prints_judged}
use Rattle.kat_cli.proofs.NodeNewFiles.{new_refused}
use Rattle.kat_cli.proofs.node_commands.judge_node_new.Goals as goal

pub returns-in-Err-clause-judged : goal.returns-in-Err-clause-judged
returns-in-Err-clause-judged g c =
    rw c.refused_design.ensures (new_refused c.args.options c.args.design.now (record {
      written = g.K.Sink.written c.args.out.now;
      written_after = g.K.Sink.written c.args.out.now;
      faults = g.K.Sink.faults c.args.out.now;
      faults_after = g.K.Sink.faults c.args.out.now;
    }) c.in-Err.error c.in-Err.ensures.refused refl)

pub new_text-requires-clause-sorted : goal.new_text-requires-clause-sorted
new_text-requires-clause-sorted g c = well_sorted_file c.args.design.now (file_form c.in-Ok.file) c.in-Ok.ensures.read

pub returns-in-Ok-new_text-clause-judged : goal.returns-in-Ok-new_text-clause-judged
returns-in-Ok-new_text-clause-judged g c =
    prints_judged (command.NodeNew c.args.options) (c.args.design.now ∷ []) c.in-Ok-new_text.text.items Done c.print.result _ tt
    (record {
      inputs = file_form c.in-Ok.file;
      accepted = c.in-Ok.ensures.read;
      ends = (refl, c.in-Ok-new_text.ensures);
    }) (rw c.deref.ensures.value at c.print.ensures.prints)
