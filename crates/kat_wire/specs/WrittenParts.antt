-- Used inside only.
-- The parts of a proof are numbers that a file can have.
use Rattle.std.specs.Prelude.{ℤ, ◌≤ℤ◌, ◌<ℤ◌, ◌^◌, neg_ℤ, pos}
use Rattle.kat_design.specs.Sorted.{EachHas}
use Rattle.kat_refute.specs.Lines.{hinted, Line, rup, linear}
use Rattle.kat_wire.specs.FileForms.{IsFileMultiplier, IsIndex}

-- a number of 32 bits with sign
pub record Is32Bits (z : ℤ) : Type 0 where
  pub least : neg_ℤ (pos (2 ^ 31)) ≤ℤ z
  pub most : z <ℤ pos (2 ^ 31)

-- literals of 32 bits, 0 too, multipliers of 64 bits, and hints of 32 bits
abbrev pub HasSizedNumbers : Line → Type 0
HasSizedNumbers (rup literals) = EachHas Is32Bits literals
HasSizedNumbers (linear literals multipliers) = EachHas Is32Bits literals × EachHas IsFileMultiplier multipliers
HasSizedNumbers (hinted literals hints) = EachHas Is32Bits literals × EachHas IsIndex hints
