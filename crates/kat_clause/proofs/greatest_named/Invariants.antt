use Rattle.std.proofs.Common.{All, take}
use Rattle.kat_clause.specs.Clauses.{lists}
use Rattle.kat_clause.specs.Known.{AreUpTo}
use Rattle.kat_clause.specs.Hints.{numbered}
use Rattle.kat_clause.proofs.greatest_named.Given as goal

abbrev pub invariant-loop-hint : goal.invariant-loop-hint
invariant-loop-hint l = AreUpTo l.greatest l.line × All (λ hint. AreUpTo l.greatest (numbered (lists l.clauses) hint)) (take l.hint-index l.hints)
