use Rattle.std.proofs.Common.{take}
use Rattle.kat_clause.specs.Clauses.{SameMembers}
use Rattle.kat_clause.proofs.index.literals_once.Given as goal

abbrev pub invariant-loop-literal : goal.invariant-loop-literal
invariant-loop-literal l = SameMembers l.once.items (take l.literal-index l.literal-items)
