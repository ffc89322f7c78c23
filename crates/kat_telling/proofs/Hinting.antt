-- Lines without hints to which the hints that are found are added.
use Rattle.std.proofs.Common.{◌≡◌, ℕ, suc, ◌<◌, ◌≤◌, ℤ, List, [], ◌∷◌, ◌++◌, length, refl, sym, ap, subst}
use Rattle.std.specs.List.{All}
use Rattle.std.proofs.lemmas.List.Elements.{All-head, All-tail, All-nil, All-cons}
use Rattle.kat_check.specs.Acceptance.{count_of, encoding_at, lines_at}
use Rattle.kat_check.specs.Migration.{migrated_file}
use Rattle.kat_check.proofs.Migrating.{lines_migrated}
use Rattle.kat_refute.specs.HintedLines.{hinted_line, hinted_lines}
use Rattle.kat_refute.specs.Lines.{Line, literals_of}
use Rattle.kat_refute.specs.Lines.Line.{rup, linear, hinted}
use Rattle.kat_cases.specs.Decisions.{HasNoHints}
use Rattle.kat_type.specs.Types.{TypeForm}
use Rattle.kat_wire.specs.FileForms.{FileForm}
use Rattle.kat_telling.specs.Evidence.{HasEachOnce}
use Rattle.kat_telling.specs.Hinted.{HasFoundHints, HaveFoundHints, IsHintedFile}

-- the literals of a line stay
kept_literals : (clauses : List (List ℤ)) (line : Line) → literals_of (hinted_line clauses line) ≡ literals_of line
kept_literals clauses (rup literals) = refl
kept_literals clauses (linear literals multipliers) = refl
kept_literals clauses (hinted literals hints) = refl

-- so do the number of lines, and that no variable occurs twice in one
pub kept_count : (clauses : List (List ℤ)) (lines : List Line) → length (hinted_lines clauses lines) ≡ length lines
kept_count clauses [] = refl
kept_count clauses (line ∷ lines) = ap suc (kept_count (clauses ++ literals_of line ∷ []) lines)

once_kept : (clauses : List (List ℤ)) (line : Line) → HasEachOnce line → HasEachOnce (hinted_line clauses line)
once_kept clauses (rup literals) once = once
once_kept clauses (linear literals multipliers) once = once
once_kept clauses (hinted literals hints) once = once

pub kept_once : (clauses : List (List ℤ)) (lines : List Line) → All HasEachOnce lines → All HasEachOnce (hinted_lines clauses lines)
kept_once clauses [] once = All-nil HasEachOnce
kept_once clauses (line ∷ lines) once =
    All-cons HasEachOnce (hinted_line clauses line) (hinted_lines (clauses ++ literals_of line ∷ []) lines) (once_kept clauses line (All-head HasEachOnce line lines once))
    (kept_once (clauses ++ literals_of line ∷ []) lines (All-tail HasEachOnce line lines once))

-- each has the hints that are found for it
line_found : (clauses : List (List ℤ)) (line : Line) → HasNoHints line → HasFoundHints clauses (hinted_line clauses line)
line_found clauses (rup literals) none = refl
line_found clauses (linear literals multipliers) none = tt
line_found clauses (hinted literals hints) none = absurd none

lines_found : (clauses : List (List ℤ)) (lines : List Line) → All HasNoHints lines → HaveFoundHints clauses (hinted_lines clauses lines)
lines_found clauses [] none = tt
lines_found clauses (line ∷ lines) none = (
  line_found clauses line (All-head HasNoHints line lines none),
  subst (λ (literals : List ℤ). HaveFoundHints (clauses ++ literals ∷ []) (hinted_lines (clauses ++ literals_of line ∷ []) lines)) (sym (kept_literals clauses line))
      (lines_found (clauses ++ literals_of line ∷ []) lines (All-tail HasNoHints line lines none)),
)

-- so have all lines of a file that is migrated, if no line had hints
pub file_found : (ty : TypeForm) (f : FileForm) → ((k : ℕ) → 0 < k → k ≤ count_of ty f → All HasNoHints (lines_at f k)) → IsHintedFile ty (migrated_file ty f)
file_found ty f none k above within =
    subst (λ (lines : List Line). HaveFoundHints (encoding_at ty f k).clauses lines) (sym (lines_migrated ty f k above))
    (lines_found (encoding_at ty f k).clauses (lines_at f k) (none k above within))
