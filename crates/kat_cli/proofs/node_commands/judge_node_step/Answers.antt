use Rattle.std.proofs.Common.{refl, sym, subst, arith, ◌∷◌}
use Rattle.kat_design.specs.Designs.{design_form}
use Rattle.kat_wire.specs.FileForms.{file_form}
use Rattle.kat_cli.specs.Ending.{contents}
use Rattle.kat_cli.specs.NodeStepCommand.{Ends, Inputs}
use Rattle.kat_cli.specs.declared.status.Status.TheVariants.{Done}
use Rattle.kat_words.specs.declared.words.Command.TheVariants as command
use Rattle.kat_cli.proofs.DesignFiles.{few_calls_file, well_sorted_file}
use Rattle.kat_cli.proofs.Ending.{contents_length, prints_judged}
use Rattle.kat_cli.proofs.NodeNewFiles.{step_design_refused}
use Rattle.kat_cli.proofs.NodeStepFiles.{action_refused, ends_step, file_refused}
use Rattle.kat_cli.proofs.node_commands.judge_node_step.Goals as goal

pub returns-in-Err-clause-judged : goal.returns-in-Err-clause-judged
returns-in-Err-clause-judged g c =
    rw c.refused_design.ensures (step_design_refused c.args.design.now (c.args.state.now ∷ c.args.actions.now ∷ contents c.args.packets.now) (record {
      written = g.K.Sink.written c.args.out.now;
      written_after = g.K.Sink.written c.args.out.now;
      faults = g.K.Sink.faults c.args.out.now;
      faults_after = g.K.Sink.faults c.args.out.now;
    }) c.in-Err.error c.in-Err.ensures.refused refl)

pub read_step-requires-clause-sorted : goal.read_step-requires-clause-sorted
read_step-requires-clause-sorted g c = well_sorted_file c.args.design.now (file_form c.in-Ok.file) c.in-Ok.ensures.read

pub read_step-requires-clause-few : goal.read_step-requires-clause-few
read_step-requires-clause-few g c = few_calls_file c.args.design.now (file_form c.in-Ok.file) c.in-Ok.ensures.read

pub returns-in-Err-read_step-clause-judged : goal.returns-in-Err-read_step-clause-judged
returns-in-Err-read_step-clause-judged g c =
    rw c.refused_step_file.ensures (file_refused (file_form c.in-Ok.file) c.args.design.now (c.args.state.now ∷ c.args.actions.now ∷ contents c.args.packets.now) (record {
      written = g.K.Sink.written c.args.out.now;
      written_after = g.K.Sink.written c.args.out.now;
      faults = g.K.Sink.faults c.args.out.now;
      faults_after = g.K.Sink.faults c.args.out.now;
    })
    c.in-Err-read_step.field-0.file c.saturating_add.result c.in-Err-read_step.field-0.error c.in-Ok.ensures.read
    (λ less. omega (arith, less, c.requires, contents_length c.args.packets.now, c.saturating_add.ensures)) c.in-Err-read_step.ensures.refused refl)

pub step_text-requires-clause-sorted : goal.step_text-requires-clause-sorted
step_text-requires-clause-sorted g c = well_sorted_file c.args.design.now (file_form c.in-Ok.file) c.in-Ok.ensures.read

pub step_text-requires-clause-of : goal.step_text-requires-clause-of
step_text-requires-clause-of g c =
    c.steps_are_of_designs.ensures (design_form c.in-Ok.file.design) c.args.state.now c.args.actions.now (contents c.args.packets.now) c.in-Ok-read_step.files c.in-Ok-read_step.ensures.files

pub returns-in-Ok-step_text-clause-judged : goal.returns-in-Ok-step_text-clause-judged
returns-in-Ok-step_text-clause-judged g c =
    let inputs : Inputs = record { file = file_form c.in-Ok.file; files = c.in-Ok-read_step.files } in
    let ends = ends_step inputs (well_sorted_file c.args.design.now (file_form c.in-Ok.file) c.in-Ok.ensures.read) c.in-Ok-step_text.ensures.passed in
    prints_judged command.NodeStep (c.args.design.now ∷ c.args.state.now ∷ c.args.actions.now ∷ contents c.args.packets.now) c.in-Ok-step_text.text.items Done c.print.result _ tt
    (record {
      inputs = inputs;
      accepted = (c.in-Ok.ensures.read, c.in-Ok-read_step.ensures.files);
      ends = subst (λ all. Ends inputs Done all) (sym c.in-Ok-step_text.ensures.text) ends;
    }) (rw c.deref.ensures.value at c.print.ensures.prints)

pub returns-clause-judged : goal.returns-clause-judged
returns-clause-judged g c =
    let inputs : Inputs = record { file = file_form c.in-Ok.file; files = c.in-Ok-read_step.files } in
    rw c.refused_step.ensures (action_refused c.args.design.now c.args.state.now c.args.actions.now (contents c.args.packets.now) inputs (record {
      written = g.K.Sink.written c.args.out.now;
      written_after = g.K.Sink.written c.args.out.now;
      faults = g.K.Sink.faults c.args.out.now;
      faults_after = g.K.Sink.faults c.args.out.now;
    })
    c.in-Err-step_text.error (c.in-Ok.ensures.read, c.in-Ok-read_step.ensures.files) c.in-Err-step_text.ensures.refused refl)
