use Rattle.std.proofs.Common.{◌≡◌, ℕ, ◌≤◌}
use Rattle.kat_lattice.specs.Tallies.{sum_of}
use Rattle.kat_bench.proofs.joins.tally_of.Given as goal

-- the replicas that are still to come have no sum
abbrev pub invariant-loop-i : goal.invariant-loop-i
invariant-loop-i l = (k : ℕ) → l.i ≤ k → sum_of l.tally k ≡ 0
