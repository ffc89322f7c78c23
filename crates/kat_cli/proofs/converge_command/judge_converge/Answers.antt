use Rattle.std.proofs.Common.{refl, ◌∷◌, []}
use Rattle.kat_design.specs.Designs.{design_form}
use Rattle.kat_wire.specs.FileForms.{file_form}
use Rattle.kat_script.proofs.Bridge.{scripts_are_judged}
use Rattle.kat_cli.specs.ConvergeCommand.{output}
use Rattle.kat_cli.specs.declared.status.Status.TheVariants.{Done}
use Rattle.kat_words.specs.declared.words.Command.TheVariants.{Converge}
use Rattle.kat_cli.proofs.Converging.{design_refused, script_refused}
use Rattle.kat_cli.proofs.DesignFiles.{few_calls_file, well_sorted_file}
use Rattle.kat_cli.proofs.Ending.{prints_judged}
use Rattle.kat_cli.proofs.converge_command.judge_converge.Goals as goal

pub returns-in-Err-clause-judged : goal.returns-in-Err-clause-judged
returns-in-Err-clause-judged g c =
    rw c.refused_design.ensures (design_refused c.args.design.now c.args.script.now (record {
      written = g.K.Sink.written c.args.out.now;
      written_after = g.K.Sink.written c.args.out.now;
      faults = g.K.Sink.faults c.args.out.now;
      faults_after = g.K.Sink.faults c.args.out.now;
    }) c.in-Err.error c.in-Err.ensures.refused refl)

pub read_script-requires : goal.read_script-requires
read_script-requires g c = few_calls_file c.args.design.now (file_form c.in-Ok.file) c.in-Ok.ensures.read

pub print-requires-clause-sorted : goal.print-requires-clause-sorted
print-requires-clause-sorted g c = well_sorted_file c.args.design.now (file_form c.in-Ok.file) c.in-Ok.ensures.read

pub print-requires-clause-judged : goal.print-requires-clause-judged
print-requires-clause-judged g c = scripts_are_judged c.in-Ok.file.design.sig c.args.script.now c.in-Ok-read_script.script c.in-Ok-read_script.ensures.script

pub returns-in-Ok-read_script-clause-judged : goal.returns-in-Ok-read_script-clause-judged
returns-in-Ok-read_script-clause-judged g c =
    prints_judged Converge (c.args.design.now ∷ c.args.script.now ∷ []) (output (design_form c.in-Ok.file.design) c.in-Ok-read_script.script) Done c.print.result _ tt
    (record {
      inputs = record { file = file_form c.in-Ok.file; script = c.in-Ok-read_script.script };
      accepted = (c.in-Ok.ensures.read, c.in-Ok-read_script.ensures.script);
      ends = (refl, refl);
    }) c.print.ensures.prints

pub returns-clause-judged : goal.returns-clause-judged
returns-clause-judged g c =
    rw c.refused_script.ensures (script_refused c.args.design.now c.args.script.now (file_form c.in-Ok.file) (record {
      written = g.K.Sink.written c.args.out.now;
      written_after = g.K.Sink.written c.args.out.now;
      faults = g.K.Sink.faults c.args.out.now;
      faults_after = g.K.Sink.faults c.args.out.now;
    }) c.in-Err-read_script.error c.in-Ok.ensures.read c.in-Err-read_script.ensures.refusal refl)
