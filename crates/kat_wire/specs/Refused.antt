-- Used inside only.
-- The refusal of a file.
use Rattle.std.specs.Prelude.{◌≡◌, Option, Some}
use Rattle.kat_json.specs.declared.errors.WireError.{WireError}
use Rattle.kat_json.specs.declared.errors.WireError.TheVariants.{Json, Form, Version, BadDesign, Memory}

-- the error is this refusal; out of memory says nothing
abbrev pub IsRefusalOf : Option WireError → WireError → Type 0
IsRefusalOf refusal Json = ⊥
IsRefusalOf refusal (Form place) = refusal ≡ Some (Form place)
IsRefusalOf refusal Version = refusal ≡ Some Version
IsRefusalOf refusal (BadDesign place) = refusal ≡ Some (BadDesign place)
IsRefusalOf refusal Memory = Unit {0}
