use Rattle.std.proofs.Common.{◌≡◌, ◌↔◌, length, take, drop}
use Rattle.kat_clause.specs.Clauses.{lists}
use Rattle.kat_clause.specs.Hints.{AreNumbers, Leads, IsHinted}
use Rattle.kat_refute.proofs.leads_on.Given as goal

abbrev pub invariant-loop-i : goal.invariant-loop-i
invariant-loop-i l =
    (l.reader.greatest ≡ l.count)
    × AreNumbers (length (lists l.clauses)) (take l.i l.hints)
    × (Leads (lists l.clauses) l.reader.known (drop l.i l.hints) ↔ IsHinted (lists l.clauses) l.literals l.hints)
