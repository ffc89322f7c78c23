use Rattle.std.proofs.Common.{◌≡◌, ◌++◌, length, take}
use Rattle.kat_clause.specs.Clauses.{SameMembers, opposites}
use Rattle.kat_clause.specs.Propagations.{IsSet}
use Rattle.kat_clause.proofs.reading.deny_all.Given as goal

abbrev pub invariant-loop-literal : goal.invariant-loop-literal
invariant-loop-literal l =
    IsSet l.set
    × (length l.set.marks.items ≡ length l.fn.set.marks.items)
    × SameMembers l.set.trail.items (l.fn.set.trail.items ++ opposites (take l.literal-index l.line))
