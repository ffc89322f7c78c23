use Rattle.std.proofs.Common.{◌≡◌, ◌+◌, drop}
use Rattle.kat_clause.specs.Literals.{has_of}
use Rattle.kat_form.specs.Encodings.{senses_of}
use Rattle.kat_walks.specs.Walks.{first_unset}
use Rattle.kat_walks.proofs.marks.lowest.Given as goal

abbrev pub invariant-loop-i : goal.invariant-loop-i
invariant-loop-i l = first_unset (has_of l.marks) (l.i + 1) (drop l.i (senses_of l.meanings)) ≡ first_unset (has_of l.marks) 1 (senses_of l.meanings)
