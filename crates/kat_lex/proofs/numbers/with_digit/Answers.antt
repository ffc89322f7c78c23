use Rattle.std.proofs.Common.{◌-◌}
use Rattle.kat_lex.proofs.DigitLemmas.{capped_more, capped_stays}
use Rattle.kat_lex.proofs.numbers.with_digit.Goals as goal

pub returns-then-value-gt-NUMBER_LIMIT : goal.returns-then-value-gt-NUMBER_LIMIT
returns-then-value-gt-NUMBER_LIMIT c = λ exact capped. capped_stays exact c.args.value (c.args.byte - 48) c.if-value-gt-NUMBER_LIMIT.true capped

pub returns-else-value-gt-NUMBER_LIMIT : goal.returns-else-value-gt-NUMBER_LIMIT
returns-else-value-gt-NUMBER_LIMIT c = λ exact capped. rw c.from.ensures (capped_more exact c.args.value (c.args.byte - 48) c.if-value-gt-NUMBER_LIMIT.false capped)
