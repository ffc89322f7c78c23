use Rattle.std.proofs.Common.{◌≡◌}
use Rattle.kat_walk.specs.Machines.{coming, weight}
use Rattle.kat_walk.specs.Marks.{KeepsOpen}
use Rattle.kat_walk.specs.Walks.{stack_of}
use Rattle.kat_walk.proofs.turns.advance.Given as goal

abbrev pub invariant-loop-token : goal.invariant-loop-token
invariant-loop-token g l =
    (coming (g.G.Grammar.machine l.grammar) l.most (stack_of l.fn.frames.items) ≡ coming (g.G.Grammar.machine l.grammar) l.most (stack_of l.frames.items))
    × KeepsOpen (g.G.Grammar.machine l.grammar) (stack_of l.fn.frames.items) (stack_of l.frames.items)

abbrev pub decreases-loop-token : goal.decreases-loop-token
decreases-loop-token g l = weight (g.G.Grammar.machine l.grammar) l.most (stack_of l.frames.items)
