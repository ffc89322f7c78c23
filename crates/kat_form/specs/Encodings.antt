-- What an encoded condition stands for.
use Rattle.std.specs.Prelude.{◌≡◌, ◌≢◌, ℕ, zero, suc, ◌<◌, ◌≤◌, ◌^◌, ◌↔◌, ℤ, unsigned_abs, List, [], ◌∷◌, length, map, Bool, IsTrue, Option, Some, None, Vec}
use Rattle.std.specs.List.{All, Contains}
use Rattle.std.specs.Global.{Global}
use Rattle.kat_linear.specs.Rows.{Form, Term, form_of, IsAscending, IsMet}
use Rattle.kat_form.specs.declared.Meaning.{Meaning}
use Rattle.kat_form.specs.declared.Meaning.TheVariants.{Truth, Atom, Gate}
use Rattle.kat_form.specs.declared.Encoded.{Encoded}

-- what a propositional variable stands for: a truth variable, that a linear form is at most 0, or a part of a formula
pub data Sense : Type 0 where
  truth : ℕ → Sense
  atom : Form → Sense
  gate : Sense

abbrev pub sense_of : Meaning → Sense
sense_of (Truth v) = truth v
sense_of (Atom row) = atom (form_of row)
sense_of Gate = gate

-- clauses over the propositional variables, which are numbered from 1 in the order of their senses
pub record Encoding : Type 0 where
  pub clauses : List (List ℤ)
  pub senses : List Sense

abbrev pub senses_of : List Meaning → List Sense
senses_of meanings = map sense_of meanings

abbrev pub encoding : Encoded → Encoding
encoding encoded = record { clauses = map (λ (clause : Vec ℤ Global). clause.items) encoded.clauses.items; senses = senses_of encoded.meanings.items }

-- the form of an atom
abbrev pub form_in : Sense → Option Form
form_in (truth v) = None
form_in (atom form) = Some form
form_in gate = None

-- the form of the propositional variable of a number, if that is an atom
abbrev pub atom_at : List Sense → ℕ → Option Form
atom_at senses zero = None
atom_at [] (suc v) = None
atom_at (sense ∷ senses) (suc zero) = form_in sense
atom_at (sense ∷ senses) (suc (suc v)) = atom_at senses (suc v)

-- the literal is one of the variables, or the negative of one
abbrev pub IsLiteral : ℕ → ℤ → Type 0
IsLiteral count k = (0 < unsigned_abs k) × (unsigned_abs k ≤ count)

-- the terms ascend, and no number passes 2^126 in absolute value: the form's negation has numbers of 128 bits
pub record IsFitForm (form : Form) : Type 0 where
  pub ascending : IsAscending form
  pub coefficients : All (λ (t : Term). unsigned_abs t.1 ≤ 2 ^ 126) form.terms
  pub constant : unsigned_abs form.constant ≤ 2 ^ 126

-- the clause's literals are of this many variables
abbrev pub HasLiterals : ℕ → List ℤ → Type 0
HasLiterals count clause = (k : ℤ) → Contains clause k → IsLiteral count k

-- the form is fit, if there is one
abbrev pub IsFitSense : Sense → Type 0
IsFitSense (truth v) = Unit {0}
IsFitSense (atom form) = IsFitForm form
IsFitSense gate = Unit {0}

-- the forms of all atoms are fit
abbrev pub AreFitAtoms : List Sense → Type 0
AreFitAtoms senses = All IsFitSense senses

-- the clauses have literals of the encoding's variables, and the atoms are fit
pub record IsFit (encoding : Encoding) : Type 0 where
  pub literals : All (HasLiterals (length encoding.senses)) encoding.clauses
  pub atoms : AreFitAtoms encoding.senses

-- Each atom's variable is true if and only if the whole numbers make its form at most 0.
abbrev pub ReadsAtoms : (ℕ → Bool) → (ℕ → ℤ) → List Sense → Type 0
ReadsAtoms values nums senses = (v : ℕ) (form : Form) → atom_at senses v ≡ Some form → IsTrue (values v) ↔ IsMet 1 nums form

-- the form's variables are below a number
abbrev pub IsBelow : ℕ → Sense → Type 0
IsBelow count (truth v) = Unit {0}
IsBelow count (atom form) = All (λ (t : Term). t.0 < count) form.terms
IsBelow count gate = Unit {0}

-- what the propositional variable of a number stands for
abbrev pub sense_at : List Sense → ℕ → Option Sense
sense_at senses zero = None
sense_at [] (suc v) = None
sense_at (sense ∷ senses) (suc zero) = Some sense
sense_at (sense ∷ senses) (suc (suc v)) = sense_at senses (suc v)

-- no truth variable and no atom is what two propositional variables stand for
abbrev pub StandOnce : List Sense → Type 0
StandOnce senses = (sense : Sense) → sense ≢ gate → (v w : ℕ) → sense_at senses v ≡ Some sense → sense_at senses w ≡ Some sense → v ≡ w
