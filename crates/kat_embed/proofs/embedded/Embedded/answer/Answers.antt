use Rattle.std.proofs.Common.{subst, sym}
use Rattle.kat_actions.specs.Texts.{FitsSignature}
use Rattle.kat_actions.specs.declared.calls.Verb.TheVariants.{Ask}
use Rattle.kat_embed.specs.Calls.{SaysAsAfter}
use Rattle.kat_embed.specs.declared.contents.Contents.{Contents}
use Rattle.kat_embed.proofs.Answering.{says_types_answer}
use Rattle.kat_embed.proofs.embedded.Embedded.answer.Goals as goal

pub returns-clause-sequential : goal.returns-clause-sequential
returns-clause-sequential c =
    subst (λ (k : Contents). SaysAsAfter k c.args.call.now c.in_ok-passed.passed) c.self.view_is
    (says_types_answer c.self.inside.contents c.args.call.now c.answer_value-answer.result c.in_ok-passed.passed c.self.invariant
    (subst (λ (k : Contents). FitsSignature Ask k.design.sig c.args.call.now) (sym c.self.view_is) c.requires) c.answer_value-answer.ensures c.in_ok-passed.ensures)
