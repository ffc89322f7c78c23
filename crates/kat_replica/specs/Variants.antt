-- Used inside only.
-- Parts by their kind.
use Rattle.kat_design.specs.declared.states.Part.{Part}
use Rattle.kat_design.specs.declared.states.Part.TheVariants as part

-- the part is a cell
abbrev pub IsCell : Part → Type 0
IsCell (part.Cell _) = Unit {0}
IsCell _ = ⊥
