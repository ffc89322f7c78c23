use Rattle.std.proofs.Common.{◌≡◌, ◌++◌, take}
use Rattle.kat_cases.proofs.cores.falsifies.Given as goal

abbrev pub invariant-loop-literal : goal.invariant-loop-literal
invariant-loop-literal l = (l.known.assumed ≡ l.initial.known.assumed ++ take l.literal-index l.literals) × (l.known.clauses ≡ l.initial.known.clauses) × (l.known.greatest ≡ l.initial.known.greatest)
