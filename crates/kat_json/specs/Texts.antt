-- JSON texts and their values.
use Rattle.std.specs.Prelude.{◌≡◌, ℕ, List, IsUtf8, Some}
use Rattle.serde_json.specs.Data.{Data}
use Rattle.serde_json.specs.Read.{read}
use Rattle.kat_json.specs.declared.errors.WireError.{WireError}
use Rattle.kat_json.specs.declared.errors.WireError.TheVariants.{Json, Form, Version, BadDesign, Memory}

-- the bytes are the JSON text of a value
pub record IsJson (bytes : List ℕ) (d : Data) : Type 0 where
  pub utf8 : IsUtf8 bytes
  pub is_read : read bytes ≡ Some d

-- a text that isn't read: it is the JSON text of no value
abbrev pub IsUnread : List ℕ → WireError → Type 0
IsUnread bytes Json = (d : Data) → IsJson bytes d → ⊥
IsUnread bytes (Form place) = ⊥
IsUnread bytes Version = ⊥
IsUnread bytes (BadDesign place) = ⊥
IsUnread bytes Memory = Unit {0}
