use Rattle.std.proofs.Common.{refl, ◌∷◌, []}
use Rattle.kat_type.specs.Types.{type_form}
use Rattle.kat_wire.specs.FileForms.{file_form}
use Rattle.kat_cli.specs.CheckCommand.{Inputs, output}
use Rattle.kat_words.specs.declared.words.Command.TheVariants as command
use Rattle.kat_cli.proofs.CheckedFiles.{ended_judged, fails_judged}
use Rattle.kat_cli.proofs.check_command.judge_check.Goals as goal

pub returns-in-Err-clause-judged : goal.returns-in-Err-clause-judged
returns-in-Err-clause-judged g c =
    fails_judged command.Check (c.args.ty.now ∷ c.args.design.now ∷ []) c.args.ty.now c.args.design.now (record {
      written = g.K.Sink.written c.args.out.now;
      written_after = g.K.Sink.written c.args.out.now;
      faults = g.K.Sink.faults c.args.out.now;
      faults_after = g.K.Sink.faults c.args.out.now;
    }) c.in-Err.status (λ file refusal refused. refused) c.in-Err.ensures.refused refl

pub returns-clause-judged : goal.returns-clause-judged
returns-clause-judged g c =
    let inputs : Inputs = record { ty = type_form c.in-Ok.read.ty; file = file_form c.in-Ok.read.file } in
    rw c.ended.ensures (ended_judged command.Check (c.args.ty.now ∷ c.args.design.now ∷ []) inputs.ty inputs.file output _ c.write_accepted.result
    (λ accepted. record { inputs = inputs; accepted = c.in-Ok.ensures.files; ends = (accepted, refl, refl) })
    (λ condition line fault. record { inputs = inputs; accepted = c.in-Ok.ensures.files; fails = fault })
    c.write_accepted.ensures.fault c.write_accepted.ensures.writes)
