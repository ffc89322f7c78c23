use Rattle.std.proofs.Common.{◌+◌, ◌-◌, ◌≤◌, ◌≡◌, length}
use Rattle.kat_clause.specs.Clauses.{lists}
use Rattle.kat_clause.specs.Propagations.{Advances, unmarked}
use Rattle.kat_clause.proofs.propagation.Propagation.look_up.Given as goal

abbrev pub invariant-loop-self : goal.invariant-loop-self
invariant-loop-self l =
    (length l.self.marks.items ≡ length l.fn.self.marks.items)
    × (l.self.seen ≡ l.fn.self.seen)
    × (length (lists l.clauses) ≤ l.fn.self.seen → Advances (lists l.clauses) l.fn.self l.self)

abbrev pub decreases-loop-self : goal.decreases-loop-self
decreases-loop-self l = unmarked l.self.marks.items + length l.self.trail.items - l.self.looked
