use Rattle.std.proofs.Common.{◌+◌, All, drop}
use Rattle.kat_clause.specs.Literals.{has_of}
use Rattle.kat_form.specs.Encodings.{senses_of}
use Rattle.kat_potential.specs.Differences.{IsMetApart}
use Rattle.kat_cases.specs.Nodes.{held_from, rows}
use Rattle.kat_cases.proofs.meeting.are_met.Given as goal

abbrev pub invariant-loop-i : goal.invariant-loop-i
invariant-loop-i l = All (IsMetApart l.nought l.values) (rows (held_from (has_of l.marks) (l.i + 1) (drop l.i (senses_of l.meanings)))) → All (IsMetApart l.nought l.values) (rows (held_from (has_of l.marks) 1 (senses_of l.meanings)))
