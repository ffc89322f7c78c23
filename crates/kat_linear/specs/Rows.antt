use Rattle.std.specs.Prelude.{ℕ, ◌<◌, ◌≤◌, ◌^◌, ℤ, pos, ◌+ℤ◌, ◌-ℤ◌, ◌*ℤ◌, neg_ℤ, ◌≤ℤ◌, List, [], ◌∷◌, if◌then◌else◌, ◌==◌, unsigned_abs, map}
use Rattle.std.specs.List.{All}
use Rattle.kat_linear.specs.declared.Row.{Row}

-- a term: a number variable and its coefficient
abbrev pub Term : Type 0
Term = ℕ × ℤ

-- the variables of the terms strictly ascend
abbrev pub AreAscending : List Term → Type 0
AreAscending [] = Unit {0}
AreAscending (t ∷ ts) = All (λ (u : Term). t.0 < u.0) ts × AreAscending ts

-- A linear form: a sum of coefficient times variable over the terms, plus the constant. Read as a row, it demands that
-- the sum is at most 0.
pub record Form : Type 0 where
  pub terms : List Term
  pub constant : ℤ

abbrev pub form_of : Row → Form
form_of row = record { terms = row.terms.items; constant = row.constant }

abbrev pub forms : List Row → List Form
forms rows = map form_of rows

abbrev pub IsAscending : Form → Type 0
IsAscending form = AreAscending form.terms

-- the coefficient of a variable: the sum of what its terms carry, and so 0 if no term has it
abbrev pub coefficient_in : List Term → ℕ → ℤ
coefficient_in [] v = pos 0
coefficient_in (t ∷ ts) v = (if t.0 == v then t.1 else pos 0) +ℤ coefficient_in ts v

abbrev pub coefficient : ℕ → Form → ℤ
coefficient v form = coefficient_in form.terms v

-- the sum of coefficient times value over the terms
abbrev pub term_sum : (ℕ → ℤ) → List Term → ℤ
term_sum values [] = pos 0
term_sum values (t ∷ ts) = t.1 *ℤ values t.0 +ℤ term_sum values ts

-- A form's sum if each variable v is the fraction `nums v` over `den`, times `den`, so that it is a whole
-- number. At `den` 1 it is the form's sum at whole numbers.
abbrev pub scaled_value : ℕ → (ℕ → ℤ) → Form → ℤ
scaled_value den nums form = term_sum nums form.terms +ℤ form.constant *ℤ pos den

-- The fractions `nums v` over `den` make the form's sum at most 0: they meet it as a row.
abbrev pub IsMet : ℕ → (ℕ → ℤ) → Form → Type 0
IsMet den nums form = scaled_value den nums form ≤ℤ pos 0

-- the numbers are at most 2^126 in absolute value
pub record IsSmall (form : Form) : Type 0 where
  pub coefficients : All (λ (t : Term). unsigned_abs t.1 ≤ 2 ^ 126) form.terms
  pub constant : unsigned_abs form.constant ≤ 2 ^ 126

-- For the form L, 1 - L: over whole numbers that is at most 0 if and only if L is not.
abbrev pub negated_form : Form → Form
negated_form form = record { terms = map (λ (t : Term). (t.0, neg_ℤ t.1)) form.terms; constant = pos 1 -ℤ form.constant }
