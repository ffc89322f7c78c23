use Rattle.std.proofs.Common.{◌-◌, length}
use Rattle.kat_clause.specs.Clauses.{lists}
use Rattle.kat_clause.specs.Propagations.{Advances}
use Rattle.kat_clause.proofs.propagation.Propagation.look_at_new.Given as goal

abbrev pub invariant-loop-self : goal.invariant-loop-self
invariant-loop-self l = Advances (lists l.clauses) l.fn.self l.self

abbrev pub decreases-loop-self : goal.decreases-loop-self
decreases-loop-self l = length l.clauses - l.self.seen
