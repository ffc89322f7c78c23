-- Used inside only.
-- Numbers that can be printed.
use Rattle.std.specs.Prelude.{ℤ, ◌≤ℤ◌, ◌^◌, ◌-◌, neg_ℤ, pos}

-- a number of 64 bits with or without a sign
abbrev pub Is64Bits : ℤ → Type 0
Is64Bits z = (neg_ℤ (pos (2 ^ 63)) ≤ℤ z) × (z ≤ℤ pos (2 ^ 64 - 1))
