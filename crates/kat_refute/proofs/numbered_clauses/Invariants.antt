use Rattle.std.proofs.Common.{◌≡◌, length, take}
use Rattle.kat_clause.specs.Clauses.{lists}
use Rattle.kat_form.specs.Encodings.{encoding}
use Rattle.kat_refute.proofs.numbered_clauses.Given as goal

abbrev pub invariant-loop-clause : goal.invariant-loop-clause
invariant-loop-clause l = l.hinter ≡ record { greatest = length (encoding l.encoded).senses; clauses = take l.clause-index (lists l.encoded.clauses.items) }
