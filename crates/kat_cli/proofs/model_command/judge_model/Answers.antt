use Rattle.std.proofs.Common.{refl, ◌∷◌, []}
use Rattle.kat_script.proofs.Bridge.{scripts_are_judged}
use Rattle.kat_type.specs.Signatures.{signature_of}
use Rattle.kat_type.specs.Types.{type_form}
use Rattle.kat_world.specs.Model.{model_lines}
use Rattle.kat_cli.specs.declared.status.Status.TheVariants.{Done}
use Rattle.kat_words.specs.declared.words.Command.TheVariants.{Model}
use Rattle.kat_cli.proofs.Ending.{prints_judged}
use Rattle.kat_cli.proofs.Modelling.{script_refused, type_refused}
use Rattle.kat_cli.proofs.model_command.judge_model.Goals as goal

pub returns-in-Err-clause-judged : goal.returns-in-Err-clause-judged
returns-in-Err-clause-judged g c =
    rw c.refused_type.ensures (type_refused c.args.ty.now c.args.script.now (record {
      written = g.K.Sink.written c.args.out.now;
      written_after = g.K.Sink.written c.args.out.now;
      faults = g.K.Sink.faults c.args.out.now;
      faults_after = g.K.Sink.faults c.args.out.now;
    }) c.in-Err.error c.in-Err.ensures.refused refl)

pub print-requires-clause-judged : goal.print-requires-clause-judged
print-requires-clause-judged g c =
    let fits = rw c.in-Ok-signature.ensures at c.in-Ok-read_script.ensures.script in
    scripts_are_judged (signature_of (type_form c.in-Ok.ty)) c.args.script.now c.in-Ok-read_script.script fits

pub returns-in-Ok-read_script-clause-judged : goal.returns-in-Ok-read_script-clause-judged
returns-in-Ok-read_script-clause-judged g c =
    let fits = rw c.in-Ok-signature.ensures at c.in-Ok-read_script.ensures.script in
    prints_judged Model (c.args.ty.now ∷ c.args.script.now ∷ []) (model_lines (type_form c.in-Ok.ty) c.in-Ok-read_script.script) Done c.print.result _ tt
    (record { inputs = record { ty = type_form c.in-Ok.ty; script = c.in-Ok-read_script.script }; accepted = (c.in-Ok.ensures.says, fits); ends = (refl, refl) }) c.print.ensures.prints

pub returns-clause-judged : goal.returns-clause-judged
returns-clause-judged g c =
    rw c.refused_script.ensures (script_refused c.args.ty.now c.args.script.now (type_form c.in-Ok.ty) c.in-Ok-signature.sig (record {
      written = g.K.Sink.written c.args.out.now;
      written_after = g.K.Sink.written c.args.out.now;
      faults = g.K.Sink.faults c.args.out.now;
      faults_after = g.K.Sink.faults c.args.out.now;
    }) c.in-Err-read_script.error c.in-Ok.ensures.says c.in-Ok-signature.ensures c.in-Err-read_script.ensures.refusal refl)
