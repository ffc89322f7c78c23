use Rattle.std.proofs.Common.{All, take}
use Rattle.kat_clause.specs.Clauses.{lists}
use Rattle.kat_form.specs.Encodings.{HasLiterals}
use Rattle.kat_form.proofs.have_literals.Given as goal

abbrev pub invariant-loop-clause : goal.invariant-loop-clause
invariant-loop-clause l = All (HasLiterals l.count) (take l.clause-index (lists l.clauses))
