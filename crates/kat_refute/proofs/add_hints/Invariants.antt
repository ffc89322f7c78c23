use Rattle.std.proofs.Common.{◌≡◌, ◌++◌, [], length, drop, All}
use Rattle.kat_clause.specs.Known.{AreUpTo}
use Rattle.kat_form.specs.Encodings.{encoding}
use Rattle.kat_refute.specs.Lines.{lines_of, AreAccepted, clauses_before}
use Rattle.kat_refute.specs.HintedLines.{hinted_lines}
use Rattle.kat_refute.proofs.add_hints.Given as goal

abbrev pub invariant-loop-line : goal.invariant-loop-line
invariant-loop-line l =
    (l.hinter ≡ record { greatest = length (encoding l.encoded).senses; clauses = clauses_before (encoding l.encoded) (lines_of l.lines) l.line-index })
    × (l.reader ≡ record { greatest = length (encoding l.encoded).senses; known = [] })
    × AreAccepted (encoding l.encoded) (lines_of l.lines) l.line-index
    × All (AreUpTo (length (encoding l.encoded).senses)) (clauses_before (encoding l.encoded) (lines_of l.lines) l.line-index)
    × (lines_of l.hinted.items ++ hinted_lines (clauses_before (encoding l.encoded) (lines_of l.lines) l.line-index) (drop l.line-index (lines_of l.lines)) ≡ hinted_lines (encoding l.encoded).clauses (lines_of l.lines))
