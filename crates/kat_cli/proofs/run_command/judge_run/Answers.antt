use Rattle.std.proofs.Common.{refl, ◌∷◌, []}
use Rattle.kat_script.specs.Script.{IsRefused, IsScriptText}
use Rattle.kat_script.specs.declared.error.ScriptError.{ScriptError}
use Rattle.kat_script.specs.declared.script.Script.{Script}
use Rattle.kat_wire.specs.FileForms.{file_form}
use Rattle.kat_cli.specs.Refusals.{script_refusal}
use Rattle.kat_words.specs.declared.words.Command.TheVariants as command
use Rattle.kat_cli.proofs.CheckedFiles.{fails_judged}
use Rattle.kat_cli.proofs.DesignFiles.{few_calls_file, well_sorted_file}
use Rattle.kat_cli.proofs.RunFiles.{judged_once}
use Rattle.kat_cli.proofs.ScriptsBehind.{refused_too}
use Rattle.kat_cli.proofs.run_command.judge_run.Goals as goal

pub returns-in-Err-clause-judged : goal.returns-in-Err-clause-judged
returns-in-Err-clause-judged g c =
    fails_judged command.Run (c.args.ty.now ∷ c.args.design.now ∷ c.args.script.now ∷ []) c.args.ty.now c.args.design.now (record {
      written = g.K.Sink.written c.args.out.now;
      written_after = g.K.Sink.written c.args.out.now;
      faults = g.K.Sink.faults c.args.out.now;
      faults_after = g.K.Sink.faults c.args.out.now;
    }) c.in-Err.status (refused_too Script ScriptError IsScriptText IsRefused script_refusal judged_once c.args.ty.now c.args.design.now c.args.script.now) c.in-Err.ensures.refused refl

pub run_typed-requires-clause-few : goal.run_typed-requires-clause-few
run_typed-requires-clause-few g c = few_calls_file c.args.design.now (file_form c.in-Ok.read.file) c.in-Ok.ensures.files.is_file

pub run_typed-requires-clause-sorted : goal.run_typed-requires-clause-sorted
run_typed-requires-clause-sorted g c = well_sorted_file c.args.design.now (file_form c.in-Ok.read.file) c.in-Ok.ensures.files.is_file

pub returns-clause-judged : goal.returns-clause-judged
returns-clause-judged g c = c.run_typed.ensures.judged c.args.ty.now c.args.design.now c.in-Ok.ensures.files
