-- Names that are there.
use Rattle.std.specs.Prelude.{ℕ, Bool, ◌==◌, List}
use Rattle.std.specs.List.{list_any}

-- a name is among others, by their codes
abbrev pub is_among : List ℕ → ℕ → Bool
is_among codes code = list_any (λ other. other == code) codes
