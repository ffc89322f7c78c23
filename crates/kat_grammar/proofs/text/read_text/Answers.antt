use Rattle.std.proofs.Common.{subst}
use Rattle.kat_grammar.specs.Marks.{placed}
use Rattle.kat_grammar.specs.Views.{Judges}
use Rattle.kat_grammar.specs.declared.reader.Judgement.{Judgement}
use Rattle.kat_grammar.proofs.Texted.{fault_on, large_on, syntax_on}
use Rattle.kat_grammar.proofs.text.read_text.Goals as goal

pub returns-in_err-found-clause-refusal : goal.returns-in_err-found-clause-refusal
returns-in_err-found-clause-refusal c = fault_on c.args.bytes.now c.in_err-found.field-0.0 c.from_residual.result c.from_residual.ensures.1 c.in_err-found.ensures.fault

pub returns-in-Syntax-clause-refusal : goal.returns-in-Syntax-clause-refusal
returns-in-Syntax-clause-refusal c =
    syntax_on c.args.bytes.now c.in_ok-found.found.items c.deref.result.now c.deref-in-Syntax.result.now c.in-Syntax.number c.place.result c.deref.ensures.value c.deref-in-Syntax.ensures.value
    c.in_ok-found.ensures.tokens (subst (λ (j : Judgement). Judges (placed c.deref.result.now) j) c.in-Syntax.is c.in_ok-text.ensures) c.place.ensures

pub returns-clause-refusal : goal.returns-clause-refusal
returns-clause-refusal c =
    large_on c.args.bytes.now c.in_ok-found.found.items c.deref.result.now c.deref-in-TooLarge.result.now c.in-TooLarge.number c.place-in-TooLarge.result c.deref.ensures.value
    c.deref-in-TooLarge.ensures.value c.in_ok-found.ensures.tokens (subst (λ (j : Judgement). Judges (placed c.deref.result.now) j) c.in-TooLarge.is c.in_ok-text.ensures) c.place-in-TooLarge.ensures
