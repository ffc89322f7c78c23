use Rattle.std.proofs.Common.{refl, ◌∷◌, []}
use Rattle.kat_delta.specs.Lines.{delta_lines_of}
use Rattle.kat_delta_script.proofs.Bridging.{delta_scripts_are_judged}
use Rattle.kat_design.specs.Designs.{design_form}
use Rattle.kat_type.specs.Types.{type_form}
use Rattle.kat_wire.specs.FileForms.{file_form}
use Rattle.kat_cli.specs.DeltasCommand.{AreFilesFor, Inputs}
use Rattle.kat_words.specs.declared.words.Command.TheVariants as command
use Rattle.kat_cli.proofs.CheckedFiles.{ended_judged}
use Rattle.kat_cli.proofs.DeltasFiles.{ends_deltas, script_refused}
use Rattle.kat_cli.proofs.deltas_command.deltas_typed.Goals as goal

pub returns-in-Err-clause-judged : goal.returns-in-Err-clause-judged
returns-in-Err-clause-judged g c first second is =
    rw c.refused_deltas.ensures (script_refused first second c.args.script.now (type_form c.args.ty.now) (file_form c.args.file.now) (record {
      written = g.K.Sink.written c.args.out.now;
      written_after = g.K.Sink.written c.args.out.now;
      faults = g.K.Sink.faults c.args.out.now;
      faults_after = g.K.Sink.faults c.args.out.now;
    })
    c.in-Err.error is c.in-Err.ensures.refusal refl)

pub deltas_accepted-requires-clause-judged : goal.deltas_accepted-requires-clause-judged
deltas_accepted-requires-clause-judged g c = delta_scripts_are_judged c.args.file.now.design.sig c.args.script.now c.in-Ok.script c.in-Ok.ensures.script

pub returns-clause-judged : goal.returns-clause-judged
returns-clause-judged g c first second is =
    let inputs : Inputs = record { ty = type_form c.args.ty.now; file = file_form c.args.file.now; script = c.in-Ok.script } in
    let said : AreFilesFor first second c.args.script.now inputs = record { checked = is; is_script = c.in-Ok.ensures.script } in
    rw c.ended.ensures (ended_judged command.Deltas (first ∷ second ∷ c.args.script.now ∷ []) inputs.ty inputs.file (delta_lines_of (design_form c.args.file.now.design) c.in-Ok.script) _ c.deltas_accepted.result
    (λ accepted. record { inputs = inputs; accepted = said; ends = ends_deltas first second c.args.script.now inputs said accepted })
    (λ condition line fault. record { inputs = inputs; accepted = said; fails = fault })
    c.deltas_accepted.ensures.fault c.deltas_accepted.ensures.writes)
