-- Used inside only.
-- Laws of hints, as the public calls state them.
use Rattle.std.specs.Prelude.{◌≡◌, ℕ, ℤ, List, [], length}
use Rattle.kat_clause.specs.Clauses.{Follows}
use Rattle.kat_clause.specs.Hints.{AreNumbers, IsHinted, hints_of}

-- a line with hints follows
abbrev pub HintedFollows : Type 0
HintedFollows = (clauses : List (List ℤ)) (line : List ℤ) (hints : List ℕ) → AreNumbers (length clauses) hints → IsHinted clauses line hints → Follows clauses line

-- the hints of a line that follows are numbers of clauses, and show that it follows
abbrev pub HintsAreHinted : Type 0
HintsAreHinted = (clauses : List (List ℤ)) (line : List ℤ) → Follows clauses line → AreNumbers (length clauses) (hints_of clauses line) × IsHinted clauses line (hints_of clauses line)

-- a line that doesn't follow has none
abbrev pub UnfollowedHasNone : Type 0
UnfollowedHasNone = (clauses : List (List ℤ)) (line : List ℤ) → (Follows clauses line → ⊥) → hints_of clauses line ≡ []
