use Rattle.std.proofs.Common.{take}
use Rattle.kat_clause.specs.Clauses.{SameMembers}
use Rattle.kat_watch.specs.Watched.{IsPlain}
use Rattle.kat_cases.proofs.assumptions.literals_once.Given as goal

abbrev pub invariant-loop-literal : goal.invariant-loop-literal
invariant-loop-literal l = SameMembers l.once.items (take l.literal-index l.clause) × IsPlain l.once.items
