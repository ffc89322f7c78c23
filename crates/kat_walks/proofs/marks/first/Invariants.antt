use Rattle.std.proofs.Common.{◌≡◌, drop}
use Rattle.kat_walks.specs.Walks.{first_free}
use Rattle.kat_clause.specs.Literals.{has_of}
use Rattle.kat_walks.proofs.marks.first.Given as goal

abbrev pub invariant-loop-k : goal.invariant-loop-k
invariant-loop-k l = first_free (has_of l.marks) (drop l.k-index l.clause) ≡ first_free (has_of l.marks) l.clause
