-- Used inside only.
-- The refusal of what doesn't have the form.
use Rattle.std.specs.Prelude.{◌≡◌, List, Some, []}
use Rattle.kat_design.specs.Faults.{Path, first_of}
use Rattle.kat_json.specs.declared.errors.WireError.{WireError}
use Rattle.kat_json.specs.declared.errors.WireError.TheVariants.{Json, Form, Version, BadDesign, Memory}

-- the place is that of the first fault; out of memory says nothing
abbrev pub IsRefused : List Path → WireError → Type 0
IsRefused faults Json = ⊥
IsRefused faults (Form place) = first_of faults ≡ Some place
IsRefused faults Version = ⊥
IsRefused faults (BadDesign place) = ⊥
IsRefused faults Memory = Unit {0}

-- there is no fault, and the value is this
abbrev pub IsSaid : {A : Type 0} → List Path → A → A → Type 0
IsSaid faults said item = (faults ≡ []) × (item ≡ said)
