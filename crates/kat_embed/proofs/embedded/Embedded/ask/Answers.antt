use Rattle.std.proofs.Common.{subst, sym}
use Rattle.kat_actions.specs.Texts.{FitsSignature}
use Rattle.kat_actions.specs.declared.calls.Verb.TheVariants.{Ask}
use Rattle.kat_embed.specs.Calls.{AnswersAsAfter}
use Rattle.kat_embed.specs.declared.contents.Contents.{Contents}
use Rattle.kat_embed.proofs.Answering.{types_answer}
use Rattle.kat_embed.proofs.embedded.Embedded.ask.Goals as goal

pub returns-clause-sequential : goal.returns-clause-sequential
returns-clause-sequential c =
    subst (λ (k : Contents). AnswersAsAfter k c.args.call.now c.in_ok-text.text.items) c.self.view_is
    (types_answer c.self.inside.contents c.args.call.now c.in_ok-text.text.items c.self.invariant
    (subst (λ (k : Contents). FitsSignature Ask k.design.sig c.args.call.now) (sym c.self.view_is) c.requires) c.in_ok-text.ensures)
