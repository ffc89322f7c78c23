use Rattle.std.proofs.Common.{◌≡◌, ◌++◌, take}
use Rattle.kat_clause.specs.Clauses.{opposites}
use Rattle.kat_clause.proofs.known.Clauses.deny.Given as goal

abbrev pub invariant-loop-literal : goal.invariant-loop-literal
invariant-loop-literal l =
    (l.self.clauses ≡ l.fn.self.clauses)
    × (l.self.greatest ≡ l.fn.self.greatest)
    × (l.self.assumed ≡ l.fn.self.assumed ++ opposites (take l.literal-index l.line))
