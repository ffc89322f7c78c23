use Rattle.kat_design.specs.Designs.{design_form}
use Rattle.kat_node_texts.proofs.Answering.{fits_there, said_further}
use Rattle.kat_node_texts.proofs.writing.answers_text.Goals as goal

pub questions-preserved : goal.questions-preserved
questions-preserved c = (
  said_further (design_form c.args.design.now) c.args.node.now c.args.questions.now c.questions.question-index c.question-item.result c.questions.text.items c.push_answer.new.into.items
      c.questions-test.true c.question-item.is c.questions.invariant.0 c.in_ok-push_answer.ensures,
  (fits_there c.args.design.now.sig c.args.questions.now c.questions.question-index c.question-item.result c.questions-test.true c.question-item.is c.questions.invariant.1).1,
)

pub push_answer-requires-clause-fits : goal.push_answer-requires-clause-fits
push_answer-requires-clause-fits c =
    (fits_there c.args.design.now.sig c.args.questions.now c.questions.question-index c.question-item.result c.questions-test.true c.question-item.is c.questions.invariant.1).0
