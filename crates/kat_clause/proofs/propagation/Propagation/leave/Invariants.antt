use Rattle.std.proofs.Common.{◌≡◌, ◌≤◌, take, length}
use Rattle.kat_clause.specs.Propagations.{IsSet}
use Rattle.kat_clause.proofs.propagation.Propagation.leave.Given as goal

abbrev pub invariant-loop-self : goal.invariant-loop-self
invariant-loop-self l =
    IsSet l.self
    × (length l.self.marks.items ≡ length l.fn.self.marks.items)
    × (l.self.trail.items ≡ take (length l.self.trail.items) l.fn.self.trail.items)
    × (l.kept ≤ length l.self.trail.items)
    × (length l.self.trail.items ≤ length l.fn.self.trail.items)

abbrev pub decreases-loop-self : goal.decreases-loop-self
decreases-loop-self l = length l.self.trail.items
