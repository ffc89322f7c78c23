use Rattle.std.proofs.Common.{◌≡◌, ◌+◌, ◌-◌, ◌∷◌, [], length, take, reverse}
use Rattle.kat_clause.specs.Clauses.{lists}
use Rattle.kat_clause.specs.Findings.{restored, IsNeeded}
use Rattle.kat_clause.proofs.finding.shortened.Given as goal

abbrev pub invariant-loop-done : goal.invariant-loop-done
invariant-loop-done l =
    (length l.needed.items ≡ l.size)
    × (restored (lists l.clauses) (take (length l.steps - l.done) l.steps) (reverse l.kept.items) ≡ restored (lists l.clauses) l.steps ((l.last + 1) ∷ []))
    × IsNeeded (lists l.clauses) l.needed.items (reverse l.kept.items)
