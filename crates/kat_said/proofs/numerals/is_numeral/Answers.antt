use Rattle.std.proofs.Common.{sym, ◌∙◌}
use Rattle.std.proofs.lemmas.Bool.{false≢true}
use Rattle.kat_said.proofs.PointTexts.{digits_numeral, leads_apart, no_numeral, numeral_else, same_not, zero_numeral}
use Rattle.kat_said.proofs.numerals.is_numeral.Goals as goal

pub returns-in-empty : goal.returns-in-empty
returns-in-empty c = (λ e. absurd (false≢true e), λ is. absurd (no_numeral c.args.bytes.now c.in-empty.len_below is))

pub returns-then-is_zero : goal.returns-then-is_zero
returns-then-is_zero c = (λ e. zero_numeral c.args.bytes.now (c.is_zero.ensures.0 e), λ is. c.if-is_zero.true)

pub returns-then-first-ne48 : goal.returns-then-first-ne48
returns-then-first-ne48 c = (
  λ e. digits_numeral c.args.bytes.now c.in-len1-up.len_at_least c.if-first-ne48.true (c.are_digits.ensures.0 e),
  λ is. c.are_digits.ensures.1 (numeral_else c.args.bytes.now is (λ e. false≢true (sym c.if-is_zero.false ∙ c.is_zero.ensures.1 e))).1,
)

pub returns-else-first-ne48 : goal.returns-else-first-ne48
returns-else-first-ne48 c = (
  λ e. absurd (same_not _ c.if-first-ne48.false e),
  λ is. absurd (leads_apart c.args.bytes.now (numeral_else c.args.bytes.now is (λ e. false≢true (sym c.if-is_zero.false ∙ c.is_zero.ensures.1 e))).0 c.if-first-ne48.false),
)
