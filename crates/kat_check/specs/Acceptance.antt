-- Accepted files, and the first fault of the others.
use Rattle.std.specs.Prelude.{◌≡◌, ℕ, zero, suc, ◌+◌, ◌-◌, ◌<◌, ◌≤◌, ◌⊎◌, List, [], length, take, slice_index_or}
use Rattle.kat_design.specs.Sorted.{EachHas}
use Rattle.kat_form.specs.Encodings.{Encoding}
use Rattle.kat_form.specs.Readings.{encoding_of}
use Rattle.kat_refute.specs.Lines.{AreARefutation, IsVerdict, Line}
use Rattle.kat_refute.specs.declared.Verdict.TheVariants.{Bad}
use Rattle.kat_relation.specs.Fits.{FitsConjunct}
use Rattle.kat_relation.specs.declared.relations.Conjunct.{Conjunct}
use Rattle.kat_type.specs.Types.{TypeForm}
use Rattle.kat_vc.specs.Conditions.{condition_count, facts_of_condition}
use Rattle.kat_wire.specs.FileForms.{FileForm}
use Rattle.kat_check.specs.declared.acceptance.Checked.{Checked}
use Rattle.kat_check.specs.declared.acceptance.Checked.TheVariants as checked

-- the conjunct speaks of what the type and the file's design have
abbrev pub Fits : TypeForm → FileForm → Conjunct → Type 0
Fits ty f conjunct = FitsConjunct ty f.design.components conjunct

-- how many conditions a file has to prove
abbrev pub count_of : TypeForm → FileForm → ℕ
count_of ty f = condition_count ty f.relation

-- the encoding of a condition's facts, by its number from 1
abbrev pub encoding_at : TypeForm → FileForm → ℕ → Encoding
encoding_at ty f k = encoding_of (facts_of_condition ty f.design f.relation k)

-- the lines for a condition, by its number from 1; no lines if there is no list for it
abbrev pub lines_at : FileForm → ℕ → List Line
lines_at f k = slice_index_or f.proof (k - 1) []

-- the lines for a condition refute its facts, so it is proved
abbrev pub IsProved : TypeForm → FileForm → ℕ → Type 0
IsProved ty f k = AreARefutation (encoding_at ty f k) (lines_at f k)

-- the conditions up to a number are proved
abbrev pub AreProved : TypeForm → FileForm → ℕ → Type 0
AreProved ty f n = (k : ℕ) → 0 < k → k ≤ n → IsProved ty f k

-- A file is accepted if each conjunct fits the type and the design, there are as many lists of lines as conditions, and
-- each list proves its condition.
pub record IsAcceptedFile (ty : TypeForm) (f : FileForm) : Type 0 where
  pub fits : EachHas (Fits ty f) f.relation
  pub as_many : length f.proof ≡ count_of ty f
  pub proved : AreProved ty f (count_of ty f)

-- the conjunct of a number, from 1, is the first that doesn't fit
pub record IsFirstUnfit (ty : TypeForm) (f : FileForm) (number : ℕ) : Type 0 where
  pub place : ℕ
  pub counted : number ≡ place + 1
  pub within : place < length f.relation
  pub before : EachHas (Fits ty f) (take place f.relation)
  pub here : (d : Conjunct) → Fits ty f (slice_index_or f.relation place d) → ⊥

-- All conjuncts fit, and the condition is the first that isn't proved: the line is the first of its lines that isn't
-- accepted, or the next one if all are and the last clause isn't empty. So it is line 1 if the list is missing.
pub record IsFirstOpen (ty : TypeForm) (f : FileForm) (k line : ℕ) : Type 0 where
  pub fits : EachHas (Fits ty f) f.relation
  pub from_one : 0 < k
  pub there : k ≤ count_of ty f
  pub before : AreProved ty f (k - 1)
  pub bad : IsVerdict (encoding_at ty f k) (lines_at f k) (Bad line)

-- All conjuncts fit and all conditions are proved, and there is a list too many: it is that of the next condition, line 1.
pub record IsOneTooMany (ty : TypeForm) (f : FileForm) (k line : ℕ) : Type 0 where
  pub fits : EachHas (Fits ty f) f.relation
  pub proved : AreProved ty f (count_of ty f)
  pub more : count_of ty f < length f.proof
  pub next : k ≡ count_of ty f + 1
  pub first : line ≡ 1

-- the first fault of a file: a conjunct that doesn't fit, which is condition 0, or a condition and a bad line
abbrev pub IsFirstFault : TypeForm → FileForm → ℕ → ℕ → Type 0
IsFirstFault ty f zero line = IsFirstUnfit ty f line
IsFirstFault ty f (suc k) line = IsFirstOpen ty f (suc k) line ⊎ IsOneTooMany ty f (suc k) line

-- what is answered of a file
abbrev pub IsChecked : TypeForm → FileForm → Checked → Type 0
IsChecked ty f checked.Accepted = IsAcceptedFile ty f
IsChecked ty f (checked.Refused condition line) = IsFirstFault ty f condition line
