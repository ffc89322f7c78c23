use Rattle.std.proofs.Common.{refl, ◌∷◌, []}
use Rattle.kat_actions.specs.declared.calls.Verb.TheVariants.{Ask}
use Rattle.kat_actions.proofs.Fitting.{calls_fit}
use Rattle.kat_design.specs.Designs.{design_form}
use Rattle.kat_node_texts.specs.Answered.{answers_text}
use Rattle.kat_type.specs.Types.{type_form}
use Rattle.kat_wire.specs.FileForms.{file_form}
use Rattle.kat_cli.specs.NodeAskCommand.{AreFilesFor, Inputs}
use Rattle.kat_cli.specs.declared.status.Status.TheVariants.{Done}
use Rattle.kat_words.specs.declared.words.Command.TheVariants as command
use Rattle.kat_cli.proofs.CheckedFiles.{proof_judged}
use Rattle.kat_cli.proofs.Ending.{prints_judged}
use Rattle.kat_cli.proofs.NodeAskFiles.{ends_ask, questions_refused, state_refused}
use Rattle.kat_cli.proofs.node_commands.ask_typed.Goals as goal

pub read_node-requires : goal.read_node-requires
read_node-requires g c = record { sorted = c.requires.sorted }

pub returns-in-Err-clause-judged : goal.returns-in-Err-clause-judged
returns-in-Err-clause-judged g c first second is =
    rw c.refused_node.ensures (state_refused first second c.args.state.now c.args.questions.now (type_form c.args.ty.now) (file_form c.args.file.now) (record {
      written = g.K.Sink.written c.args.out.now;
      written_after = g.K.Sink.written c.args.out.now;
      faults = g.K.Sink.faults c.args.out.now;
      faults_after = g.K.Sink.faults c.args.out.now;
    })
    c.in-Err.error is c.in-Err.ensures.refused refl)

pub returns-in-Err-read_questions-clause-judged : goal.returns-in-Err-read_questions-clause-judged
returns-in-Err-read_questions-clause-judged g c first second is =
    rw c.refused_script.ensures (questions_refused first second c.args.state.now c.args.questions.now (type_form c.args.ty.now) (file_form c.args.file.now) c.in-Ok.node (record {
      written = g.K.Sink.written c.args.out.now;
      written_after = g.K.Sink.written c.args.out.now;
      faults = g.K.Sink.faults c.args.out.now;
      faults_after = g.K.Sink.faults c.args.out.now;
    })
    c.in-Err-read_questions.error is c.in-Ok.ensures.read c.in-Err-read_questions.ensures.refusal refl)

pub answer-requires-clause-node : goal.answer-requires-clause-node
answer-requires-clause-node g c = c.in-Ok.ensures.read.possible

pub answer-requires-clause-fit : goal.answer-requires-clause-fit
answer-requires-clause-fit g c =
    rw c.deref.ensures.value ((calls_fit Ask c.args.file.now.design.sig c.args.questions.now c.in-Ok-read_questions.questions.items c.in-Ok-read_questions.ensures.calls).each)

pub returns-in-Ok-check_proof-clause-judged : goal.returns-in-Ok-check_proof-clause-judged
returns-in-Ok-check_proof-clause-judged g c first second is =
    let inputs : Inputs = record { ty = type_form c.args.ty.now; file = file_form c.args.file.now; node = c.in-Ok.node; questions = c.in-Ok-read_questions.questions.items } in
    let said : AreFilesFor first second c.args.state.now c.args.questions.now inputs =
    record { checked = is; is_node = c.in-Ok.ensures.read; are_questions = c.in-Ok-read_questions.ensures.calls } in
    prints_judged command.NodeAsk (first ∷ second ∷ c.args.state.now ∷ c.args.questions.now ∷ []) (answers_text (design_form c.args.file.now.design) c.in-Ok.node c.in-Ok-read_questions.questions.items) Done c.answer.result _ tt
    (record { inputs = inputs; accepted = said; ends = ends_ask first second c.args.state.now c.args.questions.now inputs said c.in-Ok-check_proof.ensures.accepted })
    (rw c.deref.ensures.value at c.answer.ensures.prints)

pub returns-clause-judged : goal.returns-clause-judged
returns-clause-judged g c first second is =
    let inputs : Inputs = record { ty = type_form c.args.ty.now; file = file_form c.args.file.now; node = c.in-Ok.node; questions = c.in-Ok-read_questions.questions.items } in
    proof_judged command.NodeAsk (first ∷ second ∷ c.args.state.now ∷ c.args.questions.now ∷ []) inputs.ty inputs.file (record {
      written = g.K.Sink.written c.args.out.now;
      written_after = g.K.Sink.written c.args.out.now;
      faults = g.K.Sink.faults c.args.out.now;
      faults_after = g.K.Sink.faults c.args.out.now;
    })
    c.in-Err-check_proof.status
    (λ condition line fault. record {
      inputs = inputs;
      accepted = record { checked = is; is_node = c.in-Ok.ensures.read; are_questions = c.in-Ok-read_questions.ensures.calls };
      fails = fault;
    }) c.in-Err-check_proof.ensures.refused refl
