use Rattle.std.proofs.Common.{sym, ◌∙◌}
use Rattle.std.proofs.lemmas.Bool.{false≢true}
use Rattle.kat_said.proofs.PointTexts.{above_whole, below_whole, no_whole, not_true, true_not, whole_above, whole_below}
use Rattle.kat_said.proofs.numerals.is_whole.Goals as goal

pub returns-in-empty : goal.returns-in-empty
returns-in-empty c = (λ e. absurd (false≢true e), λ is. absurd (no_whole c.args.bytes.now c.in-empty.len_below is))

pub returns-then-is_numeral : goal.returns-then-is_numeral
returns-then-is_numeral c = (
  λ e. below_whole c.args.bytes.now c.in-len1-up.len_at_least c.if-first-eq45.true (c.is_numeral.ensures.0 c.if-is_numeral.true) (λ z. true_not c.is_zero.result e (c.is_zero.ensures.1 z)),
  λ is. not_true c.is_zero.result (λ z. (whole_below c.args.bytes.now c.if-first-eq45.true is).1 (c.is_zero.ensures.0 z)),
)

pub returns-else-is_numeral : goal.returns-else-is_numeral
returns-else-is_numeral c = (
  λ e. absurd (false≢true (sym c.if-is_numeral.false ∙ e)),
  λ is. c.is_numeral.ensures.1 (whole_below c.args.bytes.now c.if-first-eq45.true is).0,
)

pub returns-in_default : goal.returns-in_default
returns-in_default c = (
  λ e. above_whole c.args.bytes.now (c.is_numeral-in_default.ensures.0 e),
  λ is. c.is_numeral-in_default.ensures.1 (whole_above c.args.bytes.now c.if-first-eq45.false is),
)
