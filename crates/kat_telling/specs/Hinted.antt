-- Files whose lines have exactly the hints that are found for them.
use Rattle.std.specs.Prelude.{◌≡◌, ℕ, ◌<◌, ◌≤◌, ℤ, List, [], ◌∷◌, ◌++◌}
use Rattle.kat_check.specs.Acceptance.{count_of, encoding_at, lines_at}
use Rattle.kat_clause.specs.Hints.{hints_of}
use Rattle.kat_refute.specs.Lines.{Line, literals_of}
use Rattle.kat_refute.specs.Lines.Line.{rup, linear, hinted}
use Rattle.kat_type.specs.Types.{TypeForm}
use Rattle.kat_wire.specs.FileForms.{FileForm}

-- a line by propagation has hints, and they are those that are found for it in these clauses
abbrev pub HasFoundHints : List (List ℤ) → Line → Type 0
HasFoundHints clauses (rup literals) = ⊥
HasFoundHints clauses (linear literals multipliers) = Unit {0}
HasFoundHints clauses (hinted literals hints) = hints ≡ hints_of clauses literals

-- so has each of these lines, in the clauses known before it: these, and those of the earlier lines
abbrev pub HaveFoundHints : List (List ℤ) → List Line → Type 0
HaveFoundHints clauses [] = Unit {0}
HaveFoundHints clauses (line ∷ lines) = HasFoundHints clauses line × HaveFoundHints (clauses ++ literals_of line ∷ []) lines

-- so have the lines for each condition of a file, the first clauses being those of the condition
abbrev pub IsHintedFile : TypeForm → FileForm → Type 0
IsHintedFile ty f = (k : ℕ) → 0 < k → k ≤ count_of ty f → HaveFoundHints (encoding_at ty f k).clauses (lines_at f k)
