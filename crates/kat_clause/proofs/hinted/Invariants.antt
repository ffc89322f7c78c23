use Rattle.std.proofs.Common.{◌≡◌, ◌↔◌, drop}
use Rattle.kat_clause.specs.Clauses.{lists}
use Rattle.kat_clause.specs.Hints.{Leads, IsHinted}
use Rattle.kat_clause.proofs.hinted.Given as goal

abbrev pub invariant-loop-i : goal.invariant-loop-i
invariant-loop-i l =
    (l.reader.greatest ≡ l.greatest)
    × (Leads (lists l.clauses) l.reader.known (drop l.i l.hints) ↔ IsHinted (lists l.clauses) l.line l.hints)
