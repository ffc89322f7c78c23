-- Used inside only.
-- A list that must be at least another one, token by token.
use Rattle.std.specs.Prelude.{◌≡◌, Bool, true, List, [], ◌∷◌, Option, None, Some, if◌then◌else◌}

-- the tokens that are still to be matched, or nothing if the list is greater already
abbrev pub tie_keeps : {T : Type 0} → (T → T → Bool) → Option (List T) → T → Bool
tie_keeps at_least None t = true
tie_keeps at_least (Some []) t = true
tie_keeps at_least (Some (u ∷ us)) t = at_least t u

abbrev pub tie_next : {T : Type 0} → (T → T → Bool) → Option (List T) → T → Option (List T)
tie_next at_least None t = None
tie_next at_least (Some []) t = None
tie_next at_least (Some (u ∷ us)) t = if at_least u t then Some us else None

abbrev pub KeepsTie : {T : Type 0} → (T → T → Bool) → Option (List T) → List T → Type 0
KeepsTie at_least tie [] = Unit {0}
KeepsTie at_least tie (t ∷ w) = (tie_keeps at_least tie t ≡ true) × KeepsTie at_least (tie_next at_least tie t) w
