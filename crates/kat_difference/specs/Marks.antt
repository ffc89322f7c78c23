-- How far the operations of a list go: for each replica the time of its latest one.
use Rattle.std.specs.Prelude.{◌≡◌, ℕ, ◌==◌, max, List, [], ◌∷◌, if◌then◌else◌}
use Rattle.kat_lattice.specs.Tallies.{Sums, sum_of}
use Rattle.kat_type.specs.declared.done.Done.{Done}

-- the time of a replica's latest operation, 0 if it has none
abbrev pub latest : ℕ → List Done → ℕ
latest replica [] = 0
latest replica (one ∷ ones) = max (if one.replica == replica then one.time else 0) (latest replica ones)

-- the marks have the latest time of each replica
pub record AreMarks (marks : Sums) (ones : List Done) : Type 0 where
  pub each : (replica : ℕ) → sum_of marks replica ≡ latest replica ones
