-- Laws of accepted lines, as the public calls state them.
use Rattle.std.specs.Prelude.{◌≡◌, ℕ, ◌<◌, ℤ, Bool, true, false, List, length, Some}
use Rattle.std.specs.List.{All}
use Rattle.kat_linear.specs.Rows.{Form, IsMet, negated_form}
use Rattle.kat_clause.specs.Valuations.{AreTrueClauses}
use Rattle.kat_form.specs.Encodings.{Encoding, Sense, atom_at, HasLiterals, ReadsAtoms}
use Rattle.kat_form.specs.Facts.{Fact, forms_among}
use Rattle.kat_form.specs.Readings.{encoding_of}
use Rattle.kat_form.specs.Meanings.{holds, holds_at, over_point, IsDecided, AreTrueFacts}
use Rattle.kat_refute.specs.Lines.{Line, AreARefutation}

-- the clauses have literals of the encoding's variables alone
abbrev pub HasOwnLiterals : Encoding → Type 0
HasOwnLiterals e = All (HasLiterals (length e.senses)) e.clauses

-- If lines refute an encoded condition, no valuation of the propositional variables makes its clauses true, if each
-- atom's variable is true if and only if some whole numbers make its form at most 0.
abbrev pub RefutationsRefute : Type 0
RefutationsRefute = (e : Encoding) (lines : List Line) → HasOwnLiterals e → AreARefutation e lines →
    (values : ℕ → Bool) (nums : ℕ → ℤ) → ReadsAtoms values nums e.senses → AreTrueClauses values e.clauses → ⊥

-- Each atom's variable is true only if the fractions `nums v` over `den` meet its form, and false only if they meet its
-- negation: so they make the form at most 0 or at least 1.
abbrev pub ReadsAtomsAt : (ℕ → Bool) → ℕ → (ℕ → ℤ) → List Sense → Type 0
ReadsAtomsAt values den nums senses = (v : ℕ) (form : Form) → atom_at senses v ≡ Some form → (values v ≡ true → IsMet den nums form) × (values v ≡ false → IsMet den nums (negated_form form))

-- the same over fractions, at a point that makes each atom's form at most 0 or at least 1
abbrev pub RefutationsRefuteAt : Type 0
RefutationsRefuteAt = (e : Encoding) (lines : List Line) → HasOwnLiterals e → AreARefutation e lines →
    (values : ℕ → Bool) (den : ℕ) → 0 < den → (nums : ℕ → ℤ) → ReadsAtomsAt values den nums e.senses → AreTrueClauses values e.clauses → ⊥

-- If lines are accepted for the encoding of facts, no truth values and whole numbers make all facts hold.
abbrev pub RefutedFactsFail : Type 0
RefutedFactsFail = (facts : List Fact) (lines : List Line) → AreARefutation (encoding_of facts) lines →
    (truths : ℕ → Bool) (nums : ℕ → ℤ) → All (λ fact. holds truths nums fact ≡ true) facts → ⊥

-- the point makes the form of each atom at most 0 or at least 1
abbrev pub DecidesAtoms : ℕ → (ℕ → ℤ) → List Sense → Type 0
DecidesAtoms den nums senses = (v : ℕ) (form : Form) → atom_at senses v ≡ Some form → IsDecided den nums form

-- If a point of truth values and fractions decides each atom of facts and makes all facts true, each atom being true if
-- its form is at most 0, no list of lines is accepted for their encoding: they are open.
abbrev pub PointsStayOpen : Type 0
PointsStayOpen = (facts : List Fact) (truths : ℕ → Bool) (den : ℕ) → 0 < den → (nums : ℕ → ℤ) →
    DecidesAtoms den nums (encoding_of facts).senses → AreTrueFacts (over_point truths den nums) facts →
    (lines : List Line) → AreARefutation (encoding_of facts) lines → ⊥

-- The same in the facts' own words: the point makes each form in the facts at most 0 or at least 1, and the facts hold there.
abbrev pub FactsStayOpen : Type 0
FactsStayOpen = (facts : List Fact) (truths : ℕ → Bool) (den : ℕ) → 0 < den → (nums : ℕ → ℤ) →
    All (IsDecided den nums) (forms_among facts) → All (λ fact. holds_at truths den nums fact ≡ true) facts →
    (lines : List Line) → AreARefutation (encoding_of facts) lines → ⊥
