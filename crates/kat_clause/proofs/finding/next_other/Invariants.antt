use Rattle.std.proofs.Common.{◌≡◌, ℕ, ◌<◌, ◌≤◌, ◌⊎◌}
use Rattle.kat_clause.specs.Findings.{IsOpposed, literal_at}
use Rattle.kat_clause.proofs.finding.next_other.Given as goal

abbrev pub invariant-loop-i : goal.invariant-loop-i
invariant-loop-i l = (j : ℕ) → l.from ≤ j → j < l.i → IsOpposed l.marks (literal_at l.clause j) ⊎ (literal_at l.clause j ≡ literal_at l.clause l.first)
