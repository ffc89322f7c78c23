use Rattle.std.proofs.Common.{◌≡◌, ◌+◌, ◌++◌, drop}
use Rattle.kat_clause.specs.Literals.{has_of}
use Rattle.kat_form.specs.Encodings.{senses_of}
use Rattle.kat_cases.specs.Nodes.{held_from, literals}
use Rattle.kat_cases.proofs.held.held_literals.Given as goal

abbrev pub invariant-loop-i : goal.invariant-loop-i
invariant-loop-i l = l.held.items ++ literals (held_from (has_of l.marks) (l.i + 1) (drop l.i (senses_of l.meanings))) ≡ literals (held_from (has_of l.marks) 1 (senses_of l.meanings))
