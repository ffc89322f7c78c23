use Rattle.std.proofs.Common.{List, map, ap, ◌∙◌}
use Rattle.kat_form.specs.declared.Formula.{Formula}
use Rattle.kat_form.specs.Facts.{facts_of}
use Rattle.kat_symbols.specs.Connectives.{denied}
use Rattle.kat_symbols.proofs.Denials.{denied_and, denied_or}
use Rattle.kat_symbols.proofs.connectives.+deny.Goals as goal

pub denied-returns-in_ok-all_denied-in-And : goal.denied-returns-in_ok-all_denied-in-And
denied-returns-in_ok-all_denied-in-And t c = denied_and c.args.formula.now c.in-And.parts c.in_ok-all_denied-in-And.field-0 c.in-And.is (c.in_ok-all_denied-in-And.ensures ∙ ap (λ (fs : List Formula). map denied (facts_of fs)) c.deref.ensures.value)

pub denied-returns-in_ok-all_denied-in-Or : goal.denied-returns-in_ok-all_denied-in-Or
denied-returns-in_ok-all_denied-in-Or t c = denied_or c.args.formula.now c.in-Or.parts c.in_ok-all_denied-in-Or.field-0 c.in-Or.is (c.in_ok-all_denied-in-Or.ensures ∙ ap (λ (fs : List Formula). map denied (facts_of fs)) c.deref-in-Or.ensures.value)
