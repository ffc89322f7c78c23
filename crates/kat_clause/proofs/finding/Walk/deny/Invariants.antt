use Rattle.std.proofs.Common.{◌≡◌, ◌++◌, [], length, take}
use Rattle.kat_clause.specs.Clauses.{lists, SameMembers, opposites}
use Rattle.kat_clause.specs.Findings.{IsWalk, AreNoticed}
use Rattle.kat_clause.proofs.finding.Walk.deny.Given as goal

abbrev pub invariant-loop-literal : goal.invariant-loop-literal
invariant-loop-literal l =
    (length l.self.set.marks.items ≡ length l.fn.self.set.marks.items)
    × IsWalk (lists l.clauses) l.self
    × SameMembers l.self.set.trail.items (l.fn.self.set.trail.items ++ opposites (take l.literal-index l.line))
    × (AreNoticed (lists l.clauses) [] l.fn.self → AreNoticed (lists l.clauses) [] l.self)
