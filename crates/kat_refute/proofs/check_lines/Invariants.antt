use Rattle.std.proofs.Common.{◌≡◌, [], length, All}
use Rattle.kat_clause.specs.Known.{AreUpTo}
use Rattle.kat_clause.specs.Tables.{AreSetsOf}
use Rattle.kat_form.specs.Encodings.{encoding}
use Rattle.kat_refute.specs.Lines.{lines_of, AreAccepted, clauses_before}
use Rattle.kat_refute.proofs.check_lines.Given as goal

abbrev pub invariant-loop-i : goal.invariant-loop-i
invariant-loop-i l =
    (l.known.greatest ≡ length (encoding l.encoded).senses)
    × AreSetsOf (clauses_before (encoding l.encoded) (lines_of l.lines) l.i) l.known.clauses
    × (l.known.assumed ≡ [])
    × AreAccepted (encoding l.encoded) (lines_of l.lines) l.i
    × (l.reader ≡ record { greatest = length (encoding l.encoded).senses; known = [] })
    × All (AreUpTo (length (encoding l.encoded).senses)) (clauses_before (encoding l.encoded) (lines_of l.lines) l.i)
