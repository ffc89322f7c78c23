-- Used inside only.
-- The refusal of a design.
use Rattle.std.specs.Prelude.{◌≡◌, List, Some}
use Rattle.kat_design.specs.Faults.{Path, first_of}
use Rattle.kat_sort_check.specs.declared.errors.DesignError.{DesignError}
use Rattle.kat_sort_check.specs.declared.errors.DesignError.TheVariants.{BadDesign, Memory}

-- a refused design has a fault, and the place is that of its first one; out of memory says nothing
abbrev pub IsRefusal : List Path → DesignError → Type 0
IsRefusal faults (BadDesign place) = first_of faults ≡ Some place
IsRefusal faults Memory = Unit {0}
