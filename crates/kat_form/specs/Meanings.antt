-- What facts mean.
use Rattle.std.specs.Prelude.{◌≡◌, ◌≢◌, ℕ, ℤ, pos, int_le, ◌≤ℤ◌, ◌⊎◌, Bool, true, false, not, ◌&&◌, ◌||◌, if◌then◌else◌, Option, Some, None, List, [], ◌∷◌}
use Rattle.std.specs.List.{All}
use Rattle.kat_linear.specs.Rows.{Form, negated_form, scaled_value}
use Rattle.kat_form.specs.Encodings.{Sense, sense_at}
use Rattle.kat_form.specs.Encodings.Sense.{truth, atom, gate}
use Rattle.kat_form.specs.Readings.{constant_form, leads_negative}
use Rattle.kat_form.specs.Facts.{Fact, Facts}
use Rattle.kat_form.specs.Facts.Fact.{known, truth_is, at_most, above, all_of, any_of}
use Rattle.kat_form.specs.Facts.Facts.{none, more}

abbrev pub signed : Bool → Bool → Bool
signed true b = b
signed false b = not b

abbrev pub all_true : List Bool → Bool
all_true [] = true
all_true (b ∷ bs) = b && all_true bs

abbrev pub any_true : List Bool → Bool
any_true [] = false
any_true (b ∷ bs) = b || any_true bs

-- the value that is there, or else the other
abbrev pub folded : Option Bool → Bool → Bool
folded (Some b) value = b
folded None value = value

-- A row's value, given that its atom has one: rows without variables have their own, and a row whose atom is the atom of its
-- negation has the opposite of that atom's value.
abbrev pub row_value : (Sense → Bool) → Form → Bool
row_value model form = folded (constant_form form) (if leads_negative form.terms then not (model (atom (negated_form form))) else model (atom form))

abbrev mutual
  -- a fact's value, given one of each truth variable and each atom
  pub value_of : (Sense → Bool) → Fact → Bool
  value_of model (known b) = b
  value_of model (truth_is v positive) = signed positive (model (truth v))
  value_of model (at_most form) = row_value model form
  value_of model (above form) = not (row_value model form)
  value_of model (all_of fs) = all_true (values_of model fs)
  value_of model (any_of fs) = any_true (values_of model fs)

  pub values_of : (Sense → Bool) → Facts → List Bool
  values_of model none = []
  values_of model (more f fs) = value_of model f ∷ values_of model fs

-- all facts are true, given a value of each truth variable and each atom
abbrev pub AreTrueFacts : (Sense → Bool) → List Fact → Type 0
AreTrueFacts model facts = All (λ fact. value_of model fact ≡ true) facts

-- Each propositional variable that is no gate has the value of what it stands for.
abbrev pub Reads : (ℕ → Bool) → (Sense → Bool) → List Sense → Type 0
Reads values model senses = (v : ℕ) (sense : Sense) → sense_at senses v ≡ Some sense → sense ≢ gate → values v ≡ model sense

-- At the point of truth values and the fractions `nums v` over `den`: the values of truth variables and of atoms, which are
-- true if their form is at most 0.
abbrev pub over_point : (ℕ → Bool) → ℕ → (ℕ → ℤ) → Sense → Bool
over_point truths den nums (truth v) = truths v
over_point truths den nums (atom form) = int_le (scaled_value den nums form) (pos 0)
over_point truths den nums gate = false

abbrev mutual
  -- what a fact says at the point
  pub holds_at : (ℕ → Bool) → ℕ → (ℕ → ℤ) → Fact → Bool
  holds_at truths den nums (known b) = b
  holds_at truths den nums (truth_is v positive) = signed positive (truths v)
  holds_at truths den nums (at_most form) = int_le (scaled_value den nums form) (pos 0)
  holds_at truths den nums (above form) = not (int_le (scaled_value den nums form) (pos 0))
  holds_at truths den nums (all_of fs) = all_true (hold_each_at truths den nums fs)
  holds_at truths den nums (any_of fs) = any_true (hold_each_at truths den nums fs)

  pub hold_each_at : (ℕ → Bool) → ℕ → (ℕ → ℤ) → Facts → List Bool
  hold_each_at truths den nums none = []
  hold_each_at truths den nums (more f fs) = holds_at truths den nums f ∷ hold_each_at truths den nums fs

-- what a fact says of truth values and whole numbers
abbrev pub holds : (ℕ → Bool) → (ℕ → ℤ) → Fact → Bool
holds truths nums fact = holds_at truths 1 nums fact

-- the fractions make the form at most 0 or at least 1, as whole numbers do
abbrev pub IsDecided : ℕ → (ℕ → ℤ) → Form → Type 0
IsDecided den nums form = (scaled_value den nums form ≤ℤ pos 0) ⊎ (pos den ≤ℤ scaled_value den nums form)
