-- Used inside only.
-- Lines that can be written in a file.
use Rattle.std.specs.Prelude.{◌≢◌, List, ℤ, pos, All}
use Rattle.kat_refute.specs.Lines.{Line, hinted, linear, rup}

-- no literal is 0
abbrev pub IsWritable : Line → Type 0
IsWritable (rup literals) = All (λ (z : ℤ). z ≢ pos 0) literals
IsWritable (linear literals multipliers) = All (λ (z : ℤ). z ≢ pos 0) literals
IsWritable (hinted literals hints) = All (λ (z : ℤ). z ≢ pos 0) literals
