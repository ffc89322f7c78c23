-- The version of a design file: its second part.
use Rattle.std.specs.Prelude.{ℕ, ℤ, pos, Bool, true, false, List, Option, Some, None, option_and_then, unwrap_or, if◌then◌else◌}
use Rattle.std.specs.Ordering.{int_eq}
use Rattle.serde_json.specs.Data.{Data}
use Rattle.kat_json.specs.Lists.{at_place}
use Rattle.kat_json.specs.Words.{whole_of}

abbrev pub version_in : ℤ → Option ℕ
version_in z = if int_eq z (pos 1) then Some 1 else if int_eq z (pos 2) then Some 2 else None

-- the version of a file with these parts, if it is one
abbrev pub version_of : List Data → Option ℕ
version_of parts = option_and_then version_in (whole_of (at_place parts 1))

abbrev pub is_version : Option ℕ → Bool
is_version None = false
is_version (Some version) = true

abbrev pub has_version : List Data → Bool
has_version parts = is_version (version_of parts)

abbrev pub version_said : List Data → ℕ
version_said parts = unwrap_or (version_of parts) 1
