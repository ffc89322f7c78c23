-- Lines to which hints are added.
use Rattle.std.specs.Prelude.{◌≡◌, ℕ, ℤ, List, [], ◌∷◌, ◌++◌, length, Option, Some, None}
use Rattle.std.specs.List.{All}
use Rattle.kat_clause.specs.Clauses.{Follows}
use Rattle.kat_clause.specs.Hints.{AreNumbers, IsHinted, hints_of}
use Rattle.kat_form.specs.Encodings.{Encoding, IsLiteral}
use Rattle.kat_refute.specs.Lines.{Line, literals_of, IsAcceptedLine, AreARefutation}
use Rattle.kat_refute.specs.Lines.Line.{rup, linear, hinted}

-- a line by propagation becomes one with the hints that are found for it, every other line stays
abbrev pub hinted_line : List (List ℤ) → Line → Line
hinted_line clauses (rup literals) = hinted literals (hints_of clauses literals)
hinted_line clauses (linear literals multipliers) = linear literals multipliers
hinted_line clauses (hinted literals hints) = hinted literals hints

-- so do lines, each with the clauses known before it
abbrev pub hinted_lines : List (List ℤ) → List Line → List Line
hinted_lines clauses [] = []
hinted_lines clauses (line ∷ lines) = hinted_line clauses line ∷ hinted_lines (clauses ++ literals_of line ∷ []) lines

-- what is answered of lines to which hints must be added
abbrev pub AddsHints : Encoding → List Line → Option (List Line) → Type 0
AddsHints e lines None = AreARefutation e lines → ⊥
AddsHints e lines (Some others) = AreARefutation e lines × (others ≡ hinted_lines e.clauses lines)

-- lines stay accepted when hints are added
abbrev pub HintedLinesRefute : Type 0
HintedLinesRefute = (e : Encoding) (lines : List Line) → AreARefutation e lines → AreARefutation e (hinted_lines e.clauses lines)

-- Used inside only: the hints are numbers of clauses, and show that the line follows.
abbrev pub IsShown : List (List ℤ) → List ℤ → List ℕ → Type 0
IsShown clauses literals hints = AreNumbers (length clauses) hints × IsHinted clauses literals hints

-- what is answered of one line by propagation, and of one line
abbrev pub GivesHints : ℕ → List (List ℤ) → List ℤ → Option Line → Type 0
GivesHints count clauses literals None = All (IsLiteral count) literals → Follows clauses literals → ⊥
GivesHints count clauses literals (Some line) = All (IsLiteral count) literals × Follows clauses literals × (line ≡ hinted literals (hints_of clauses literals))

abbrev pub GivesLine : Encoding → List (List ℤ) → Line → Option Line → Type 0
GivesLine e clauses line None = IsAcceptedLine e clauses line → ⊥
GivesLine e clauses line (Some other) = IsAcceptedLine e clauses line × (other ≡ hinted_line clauses line)
