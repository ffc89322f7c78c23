-- Used inside only.
-- The first fault of several lists.
use Rattle.std.specs.Prelude.{ℕ, ◌∷◌, Option, None, Some}
use Rattle.kat_design.specs.Faults.{Path}

-- the first of two, if the second comes after the first
abbrev pub earlier : Option Path → Option Path → Option Path
earlier None second = second
earlier (Some place) second = Some place

-- a place inside an element of a list
abbrev pub placed : ℕ → Option Path → Option Path
placed index None = None
placed index (Some place) = Some (index ∷ place)
