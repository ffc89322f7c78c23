use Rattle.std.proofs.Common.{length}
use Rattle.kat_watch.proofs.Leavings.{Leaving}
use Rattle.kat_watch.proofs.assignment.Assignment.take_back.Given as goal

abbrev pub invariant-loop-self : goal.invariant-loop-self
invariant-loop-self l = Leaving l.fn.self l.self l.kept

abbrev pub decreases-loop-self : goal.decreases-loop-self
decreases-loop-self l = length l.self.trail.items
