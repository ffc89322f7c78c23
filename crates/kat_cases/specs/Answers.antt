-- Used inside only.
-- What the declared answers stand for.
use Rattle.kat_refute.specs.Lines.{lines_of}
use Rattle.kat_cases.specs.declared.decision.Decision.{Decision}
use Rattle.kat_cases.specs.declared.decision.Decision.TheVariants.{Refutation, Point as AtPoint, Spent, Rows, Wide}
use Rattle.kat_cases.specs.Nodes.End.{spent, at_point, at_rows, at_wide}
use Rattle.kat_cases.specs.Walks.{Answer}
use Rattle.kat_cases.specs.Walks.Answer.{refuted, stopped}

-- a decision as plain data
abbrev pub answer_of : Decision → Answer
answer_of (Refutation lines) = refuted (lines_of lines.items)
answer_of (AtPoint point) = stopped (at_point point.den point.nums.items point.truths.items)
answer_of Spent = stopped spent
answer_of (Rows lits plus minus rest) = stopped (at_rows lits.items plus minus rest)
answer_of (Wide lits left right) = stopped (at_wide lits.items left right)
