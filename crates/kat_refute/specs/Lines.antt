-- Lines that are checked against an encoded condition.
use Rattle.std.specs.Prelude.{◌≡◌, ℕ, suc, ◌+◌, ◌-◌, ◌<◌, ◌^◌, ℤ, pos, negsuc, ◌≤ℤ◌, List, [], ◌∷◌, ◌++◌, length, map, take, Option, Some, None, option_map, slice_index_or, ◌⊎◌}
use Rattle.std.specs.List.{All}
use Rattle.kat_linear.specs.Rows.{Form, negated_form}
use Rattle.kat_linear.specs.Sums.{AreNarrow, IsCertificate}
use Rattle.kat_clause.specs.Clauses.{Follows}
use Rattle.kat_clause.specs.Hints.{AreNumbers, IsHinted}
use Rattle.kat_form.specs.Encodings.{Encoding, Sense, atom_at, IsLiteral}
use Rattle.kat_refute.specs.declared.ProofLine.{ProofLine}
use Rattle.kat_refute.specs.declared.ProofLine.TheVariants.{Rup, Linear, Hinted}
use Rattle.kat_refute.specs.declared.Verdict.{Verdict}
use Rattle.kat_refute.specs.declared.Verdict.TheVariants.{Accepted, Bad}

-- The form that is at most 0 if a literal of an atom L is false: 1 - L for the literal that L is at most 0, and L
-- for its opposite.
abbrev pub denial_form : List Sense → ℤ → Option Form
denial_form senses (pos n) = option_map negated_form (atom_at senses n)
denial_form senses (negsuc n) = atom_at senses (suc n)

abbrev pub and_then_form : Option Form → Option (List Form) → Option (List Form)
and_then_form None rest = None
and_then_form (Some form) None = None
and_then_form (Some form) (Some rest) = Some (form ∷ rest)

-- the forms of all literals' denials, if each literal is of an atom
abbrev pub denial_forms : List Sense → List ℤ → Option (List Form)
denial_forms senses [] = Some []
denial_forms senses (k ∷ ks) = and_then_form (denial_form senses k) (denial_forms senses ks)

-- a multiplier that a line may have
abbrev pub IsMultiplier : ℤ → Type 0
IsMultiplier m = (pos 0 ≤ℤ m) × (m ≤ℤ pos (2 ^ 62))

-- A line as plain data: by unit propagation, its literals; by linear arithmetic, its literals and their multipliers; by unit
-- propagation with hints, its literals and the numbers of the clauses that show it.
pub data Line : Type 0 where
  rup : List ℤ → Line
  linear : List ℤ → List ℤ → Line
  hinted : List ℤ → List ℕ → Line

abbrev pub line_of : ProofLine → Line
line_of (Rup lits) = rup lits.items
line_of (Linear lits multipliers) = linear lits.items multipliers.items
line_of (Hinted lits hints) = hinted lits.items hints.items

abbrev pub lines_of : List ProofLine → List Line
lines_of lines = map line_of lines

-- the literals of a line's clause
abbrev pub literals_of : Line → List ℤ
literals_of (rup literals) = literals
literals_of (linear literals multipliers) = literals
literals_of (hinted literals hints) = literals

-- the clauses that lines add
abbrev pub added : List Line → List (List ℤ)
added lines = map literals_of lines

-- the literals are of atoms, and the multipliers a certificate that they aren't all false
abbrev pub IsLinear : List Sense → List ℤ → List ℤ → Type 0
IsLinear senses literals multipliers =
    (length literals ≡ length multipliers)
    × All IsMultiplier multipliers
    × ((forms : List Form) × (denial_forms senses literals ≡ Some forms) × AreNarrow forms multipliers × IsCertificate forms multipliers)

-- a line with hints is accepted
abbrev pub IsHintedLine : ℕ → List (List ℤ) → List ℤ → List ℕ → Type 0
IsHintedLine count clauses literals hints = All (IsLiteral count) literals × AreNumbers (length clauses) hints × IsHinted clauses literals hints

-- the clauses of the encoding and of the first lines
abbrev pub clauses_before : Encoding → List Line → ℕ → List (List ℤ)
clauses_before e lines n = e.clauses ++ added (take n lines)

-- A line by propagation is accepted if its variables exist and its clause follows by unit propagation; one with hints
-- if its variables exist, each hint is the number of a clause, and the hints show that it follows. A line by linear
-- arithmetic is accepted if each of its literals is of an atom and its multipliers are a certificate that the
-- literals aren't all false.
abbrev pub IsAcceptedLine : Encoding → List (List ℤ) → Line → Type 0
IsAcceptedLine e clauses (rup literals) = All (IsLiteral (length e.senses)) literals × Follows clauses literals
IsAcceptedLine e clauses (linear literals multipliers) = IsLinear e.senses literals multipliers
IsAcceptedLine e clauses (hinted literals hints) = IsHintedLine (length e.senses) clauses literals hints

-- the first lines, of the stated number, are accepted, each with the clauses of the encoding and of the lines before it
abbrev pub AreAccepted : Encoding → List Line → ℕ → Type 0
AreAccepted e lines n = (j : ℕ) → j < n → (d : Line) → IsAcceptedLine e (clauses_before e lines j) (slice_index_or lines j d)

-- the last clause is empty
abbrev pub EndsEmpty : List (List ℤ) → Type 0
EndsEmpty clauses = (0 < length clauses) × (slice_index_or clauses (length clauses - 1) [] ≡ [])

-- The lines refute the encoded condition: each is accepted, and the last one's clause is empty.
pub record AreARefutation (e : Encoding) (lines : List Line) : Type 0 where
  pub accepted : AreAccepted e lines (length lines)
  pub ends : EndsEmpty (added lines)

-- the line of a number, from 1, is the first that isn't accepted
pub record IsFirstRefused (e : Encoding) (lines : List Line) (number : ℕ) : Type 0 where
  pub place : ℕ
  pub counted : number ≡ place + 1
  pub within : place < length lines
  pub before : AreAccepted e lines place
  pub here : (d : Line) → IsAcceptedLine e (clauses_before e lines place) (slice_index_or lines place d) → ⊥

-- all lines are accepted, and the last clause isn't empty: the bad line is the next one
pub record IsUnended (e : Encoding) (lines : List Line) (n : ℕ) : Type 0 where
  pub behind : n ≡ length lines + 1
  pub accepted : AreAccepted e lines (length lines)
  pub open_end : EndsEmpty (added lines) → ⊥

-- what is answered of lines
abbrev pub IsVerdict : Encoding → List Line → Verdict → Type 0
IsVerdict e lines Accepted = AreARefutation e lines
IsVerdict e lines (Bad n) = IsFirstRefused e lines n ⊎ IsUnended e lines n
