use Rattle.std.proofs.Common.{sym, ◌∙◌}
use Rattle.std.proofs.lemmas.Bool.{false≢true}
use Rattle.kat_said.proofs.PointTexts.{wholes_are, wholes_told}
use Rattle.kat_said.proofs.numerals.are_wholes.Goals as goal

pub returns-then-is_begun : goal.returns-then-is_begun
returns-then-is_begun c = (
  λ e. wholes_told c.args.bytes.now (c.is_begun.ensures.0 c.if-is_begun.true) (c.are_whole_words.ensures.0 e),
  λ is. c.are_whole_words.ensures.1 (wholes_are c.args.bytes.now is).1,
)

pub returns-else-is_begun : goal.returns-else-is_begun
returns-else-is_begun c = (
  λ e. absurd (false≢true (sym c.if-is_begun.false ∙ e)),
  λ is. c.is_begun.ensures.1 (wholes_are c.args.bytes.now is).0,
)
