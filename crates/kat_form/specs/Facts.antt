-- Facts as plain data, which other definitions can build: what a formula says.
use Rattle.std.specs.Prelude.{ℕ, suc, ◌<◌, ◌≤◌, ◌^◌, unsigned_abs, Bool, true, false, List, [], ◌∷◌, ◌++◌, map}
use Rattle.std.specs.List.{All}
use Rattle.kat_linear.specs.Rows.{Form, Term, form_of}
use Rattle.kat_form.specs.declared.Formula.{Formula}
use Rattle.kat_form.specs.declared.Formula.TheOpen.{Formula-F, True, False, Lit, AtMost, Above, And, Or}
use Rattle.kat_form.specs.declared.Formula.TheFolds.{fold-Formula}

mutual
  -- true or false; a truth variable or its negation; that a form is at most 0, or above it; all of some facts, or one
  pub data Fact : Type 0 where
    known : Bool → Fact
    truth_is : ℕ → Bool → Fact
    at_most : Form → Fact
    above : Form → Fact
    all_of : Facts → Fact
    any_of : Facts → Fact

  pub data Facts : Type 0 where
    none : Facts
    more : Fact → Facts → Facts

abbrev pub listed : List Fact → Facts
listed [] = none
listed (f ∷ fs) = more f (listed fs)

abbrev pub fact_step : Formula-F Fact → Fact
fact_step True = known true
fact_step False = known false
fact_step (Lit v positive) = truth_is v positive
fact_step (AtMost row) = at_most (form_of row)
fact_step (Above row) = above (form_of row)
fact_step (And parts) = all_of (listed parts.items)
fact_step (Or parts) = any_of (listed parts.items)

-- what a formula says
abbrev pub fact_of : Formula → Fact
fact_of = fold-Formula Fact fact_step

abbrev pub facts_of : List Formula → List Fact
facts_of formulas = map fact_of formulas

abbrev mutual
  -- the forms of a fact
  pub forms_in : Fact → List Form
  forms_in (known b) = []
  forms_in (truth_is v positive) = []
  forms_in (at_most form) = form ∷ []
  forms_in (above form) = form ∷ []
  forms_in (all_of fs) = forms_in_each fs
  forms_in (any_of fs) = forms_in_each fs

  pub forms_in_each : Facts → List Form
  forms_in_each none = []
  forms_in_each (more f fs) = forms_in f ++ forms_in_each fs

-- the forms of facts
abbrev pub forms_among : List Fact → List Form
forms_among facts = forms_in_each (listed facts)

-- no number passes 2^125 in absolute value, and one more than each variable is a number of 32 bits
pub record IsSized (form : Form) : Type 0 where
  pub variables : All (λ (t : Term). suc t.0 < 2 ^ 32) form.terms
  pub coefficients : All (λ (t : Term). unsigned_abs t.1 ≤ 2 ^ 125) form.terms
  pub constant : unsigned_abs form.constant ≤ 2 ^ 125

abbrev pub AreSized : List Form → Type 0
AreSized forms = All IsSized forms
