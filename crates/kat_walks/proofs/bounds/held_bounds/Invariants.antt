use Rattle.std.proofs.Common.{◌≡◌, ◌+◌, ◌++◌, drop}
use Rattle.kat_linear.specs.Rows.{forms}
use Rattle.kat_clause.specs.Literals.{has_of}
use Rattle.kat_form.specs.Encodings.{senses_of}
use Rattle.kat_walks.specs.Walks.{bounds_from, literals_in, rows_in}
use Rattle.kat_walks.proofs.bounds.held_bounds.Given as goal

abbrev pub invariant-loop-i : goal.invariant-loop-i
invariant-loop-i l =
    (l.held.literals.items ++ literals_in (bounds_from (has_of l.marks) (l.i + 1) (drop l.i (senses_of l.meanings))) ≡ literals_in (bounds_from (has_of l.marks) 1 (senses_of l.meanings)))
    × (forms l.held.rows.items ++ rows_in (bounds_from (has_of l.marks) (l.i + 1) (drop l.i (senses_of l.meanings))) ≡ rows_in (bounds_from (has_of l.marks) 1 (senses_of l.meanings)))
