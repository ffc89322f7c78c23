use Rattle.std.proofs.Common.{◌≡◌, drop}
use Rattle.kat_cases.specs.Nodes.{first_open}
use Rattle.kat_clause.specs.Literals.{has_of}
use Rattle.kat_cases.proofs.marks.first.Given as goal

abbrev pub invariant-loop-k : goal.invariant-loop-k
invariant-loop-k l = first_open (has_of l.marks) (drop l.k-index l.clause) ≡ first_open (has_of l.marks) l.clause
