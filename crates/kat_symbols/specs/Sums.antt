-- Sums of linear forms.
use Rattle.std.specs.Prelude.{ℕ, ℤ, pos, ◌+ℤ◌, neg_ℤ, if◌then◌else◌, nat_eq, nat_lt, List, [], ◌∷◌, map}
use Rattle.std.specs.Ordering.{int_eq}
use Rattle.kat_linear.specs.Rows.{Form, Term}

-- a number
abbrev pub numeral : ℤ → Form
numeral z = record { terms = []; constant = z }

-- a number variable
abbrev pub variable : ℕ → Form
variable v = record { terms = (v, pos 1) ∷ []; constant = pos 0 }

-- terms with one in front, if its coefficient isn't 0
abbrev pub with_coefficient : ℕ → ℤ → List Term → List Term
with_coefficient v c ts = if int_eq c (pos 0) then ts else (v, c) ∷ ts

-- a term added to terms whose variables ascend
abbrev pub add_term : ℕ → ℤ → List Term → List Term
add_term v c [] = with_coefficient v c []
add_term v c (t ∷ ts) = if nat_lt v t.0 then with_coefficient v c (t ∷ ts) else (if nat_eq v t.0 then with_coefficient v (c +ℤ t.1) ts else t ∷ add_term v c ts)

abbrev pub add_terms : List Term → List Term → List Term
add_terms [] us = us
add_terms (t ∷ ts) us = add_terms ts (add_term t.0 t.1 us)

abbrev pub plus : Form → Form → Form
plus a b = record { terms = add_terms a.terms b.terms; constant = a.constant +ℤ b.constant }

abbrev pub opposite_terms : List Term → List Term
opposite_terms ts = map (λ (t : Term). (t.0, neg_ℤ t.1)) ts

abbrev pub opposite_form : Form → Form
opposite_form a = record { terms = opposite_terms a.terms; constant = neg_ℤ a.constant }

abbrev pub minus : Form → Form → Form
minus a b = plus a (opposite_form b)

-- one more
abbrev pub raised : Form → Form
raised a = record { terms = a.terms; constant = a.constant +ℤ pos 1 }
