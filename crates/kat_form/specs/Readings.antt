-- How facts are encoded into clauses (the way of Plaisted and Greenbaum 1986, one direction of each gate).
use Rattle.std.specs.Prelude.{ℕ, suc, max, ℤ, pos, neg_ℤ, int_lt, int_le, List, [], ◌∷◌, ◌++◌, length, map, Bool, true, false, not, ◌&&◌, nat_eq, if◌then◌else◌, Option, Some, None, option_map}
use Rattle.std.specs.Ordering.{int_eq}
use Rattle.kat_linear.specs.Rows.{Form, Term, negated_form}
use Rattle.kat_form.specs.Encodings.{Sense, Encoding}
use Rattle.kat_form.specs.Facts.{Fact, Facts}
use Rattle.kat_form.specs.Facts.Fact.{known, truth_is, at_most, above, all_of, any_of}
use Rattle.kat_form.specs.Facts.Facts.{none, more}
use Rattle.kat_form.specs.Encodings.Sense.{truth, atom, gate}

-- equal terms, equal forms
abbrev pub same_terms : List Term → List Term → Bool
same_terms [] [] = true
same_terms [] (u ∷ us) = false
same_terms (t ∷ ts) [] = false
same_terms (t ∷ ts) (u ∷ us) = nat_eq t.0 u.0 && int_eq t.1 u.1 && same_terms ts us

-- One propositional variable stands for a truth variable, or for an atom; each gate is a variable of its own.
abbrev pub same_sense : Sense → Sense → Bool
same_sense (truth v) (truth w) = nat_eq v w
same_sense (truth v) (atom g) = false
same_sense (truth v) gate = false
same_sense (atom f) (truth w) = false
same_sense (atom f) (atom g) = same_terms f.terms g.terms && int_eq f.constant g.constant
same_sense (atom f) gate = false
same_sense gate s = false

-- the number, from 1, of the first variable with a sense
abbrev pub place_of : Sense → List Sense → Option ℕ
place_of s [] = None
place_of s (t ∷ ts) = if same_sense s t then Some 1 else option_map suc (place_of s ts)

-- a new variable, numbered after the others
abbrev pub added : Sense → Encoding → ℤ × Encoding
added s e = (pos (suc (length e.senses)), record e { senses = e.senses ++ s ∷ [] })

abbrev pub number_at : Option ℕ → Sense → Encoding → ℤ × Encoding
number_at (Some place) s e = (pos place, e)
number_at None s e = added s e

-- the variable with a sense: the one that is there, or a new one
abbrev pub numbered : Sense → Encoding → ℤ × Encoding
numbered s e = number_at (place_of s e.senses) s e

abbrev pub opposite : ℤ × Encoding → ℤ × Encoding
opposite (l, e) = (neg_ℤ l, e)

-- the coefficient of the lowest variable, the first term's, is below 0
abbrev pub leads_negative : List Term → Bool
leads_negative [] = false
leads_negative (t ∷ ts) = int_lt t.1 (pos 0)

-- The literal of "the form is at most 0". If the lowest variable's coefficient is below 0, it is the opposite of the
-- atom of the negation, so that a form and its negation over whole numbers are one atom.
abbrev pub atom_literal : Form → Encoding → ℤ × Encoding
atom_literal form e = if leads_negative form.terms then opposite (numbered (atom (negated_form form)) e) else numbered (atom form) e

-- a form without variables is true or false
abbrev pub constant_of : List Term → ℤ → Option Bool
constant_of [] constant = Some (int_le constant (pos 0))
constant_of (t ∷ ts) constant = None

abbrev pub constant_form : Form → Option Bool
constant_form form = constant_of form.terms form.constant

abbrev pub with_clause : List ℤ → Encoding → Encoding
with_clause clause e = record e { clauses = e.clauses ++ clause ∷ [] }

abbrev pub with_clauses : List (List ℤ) → Encoding → Encoding
with_clauses clauses e = record e { clauses = e.clauses ++ clauses }

-- What encoding makes of a formula: its value if it folds to one, one more than the greatest number variable of what
-- doesn't fold away (or 0), its literal, and what stating it adds.
pub record Reading : Type 0 where
  pub constant : Option Bool
  pub numbers : ℕ
  pub literal : Encoding → ℤ × Encoding
  pub stated : Encoding → Encoding

abbrev pub unit_clause : ℤ × Encoding → Encoding
unit_clause (l, e) = with_clause (l ∷ []) e

abbrev pub state_constant : Bool → Encoding → Encoding
state_constant true e = e
state_constant false e = with_clause [] e

abbrev pub state_by : Option Bool → (Encoding → Encoding) → Encoding → Encoding
state_by (Some b) state e = state_constant b e
state_by None state e = state e

-- a formula that is one literal
abbrev pub literal_reading : Option Bool → ℕ → (Encoding → ℤ × Encoding) → Reading
literal_reading constant numbers literal = record { constant = constant; numbers = numbers; literal = literal; stated = state_by constant (λ e. unit_clause (literal e)) }

abbrev pub truth_reading : Bool → Reading
truth_reading b = literal_reading (Some b) 0 (λ e. (pos 0, e))

-- the literal of a truth variable, or its opposite
abbrev pub variable_literal : ℕ → Bool → Encoding → ℤ × Encoding
variable_literal v true e = numbered (truth v) e
variable_literal v false e = opposite (numbered (truth v) e)

abbrev pub variable_reading : ℕ → Bool → Reading
variable_reading v positive = literal_reading None 0 (variable_literal v positive)

-- one more than the greatest variable of the terms, or 0
abbrev pub numbers_in : List Term → ℕ
numbers_in [] = 0
numbers_in (t ∷ ts) = max (suc t.0) (numbers_in ts)

abbrev pub at_most_reading : Form → Reading
at_most_reading form = literal_reading (constant_form form) (numbers_in form.terms) (atom_literal form)

abbrev pub above_reading : Form → Reading
above_reading form = literal_reading (option_map not (constant_form form)) (numbers_in form.terms) (λ e. opposite (atom_literal form e))

-- the value of "and" if the parts' values tell it
abbrev pub both : Option Bool → Option Bool → Option Bool
both (Some false) b = Some false
both (Some true) b = b
both None (Some false) = Some false
both None (Some true) = None
both None None = None

-- the value of "or" if the parts' values tell it
abbrev pub either : Option Bool → Option Bool → Option Bool
either (Some true) b = Some true
either (Some false) b = b
either None (Some true) = Some true
either None (Some false) = None
either None None = None

abbrev pub value_of_all : List Reading → Option Bool
value_of_all [] = Some true
value_of_all (r ∷ rs) = both r.constant (value_of_all rs)

abbrev pub value_of_any : List Reading → Option Bool
value_of_any [] = Some false
value_of_any (r ∷ rs) = either r.constant (value_of_any rs)

-- the parts that don't fold away
abbrev pub kept_by : Option Bool → Reading → List Reading → List Reading
kept_by (Some b) r rs = rs
kept_by None r rs = r ∷ rs

abbrev pub kept : List Reading → List Reading
kept [] = []
kept (r ∷ rs) = kept_by r.constant r (kept rs)

-- the literals of parts in order
abbrev pub literals_of : List Reading → Encoding → List ℤ × Encoding
literals_of [] e = ([], e)
literals_of (r ∷ rs) e = let first = r.literal e in let rest = literals_of rs first.1 in (first.0 ∷ rest.0, rest.1)

-- a gate's clauses: if it is true, each part is; some part is
abbrev pub all_clauses : ℤ → List ℤ → List (List ℤ)
all_clauses g ls = map (λ l. neg_ℤ g ∷ l ∷ []) ls

abbrev pub any_clauses : ℤ → List ℤ → List (List ℤ)
any_clauses g ls = (neg_ℤ g ∷ ls) ∷ []

-- one literal stands for itself; several get a new gate
abbrev pub gated : (ℤ → List ℤ → List (List ℤ)) → List ℤ × Encoding → ℤ × Encoding
gated clauses ([], e) = (pos 0, e)
gated clauses (l ∷ [], e) = (l, e)
gated clauses (l ∷ m ∷ ls, e) =
    let g = pos (suc (length e.senses)) in
    (g, record { clauses = e.clauses ++ clauses g (l ∷ m ∷ ls); senses = e.senses ++ gate ∷ [] })

abbrev pub state_each : List Reading → Encoding → Encoding
state_each [] e = e
state_each (r ∷ rs) e = state_each rs (r.stated e)

-- an "or" of one part is that part
abbrev pub state_any : List Reading → Encoding → Encoding
state_any [] e = with_clause [] e
state_any (r ∷ []) e = r.stated e
state_any (r ∷ s ∷ rs) e = let ls = literals_of (r ∷ s ∷ rs) e in with_clause ls.0 ls.1

-- one more than the greatest number variable of formulas, or 0
abbrev pub numbers_of : List Reading → ℕ
numbers_of [] = 0
numbers_of (r ∷ rs) = max r.numbers (numbers_of rs)

-- what folds away has no variables
abbrev pub numbers_by : Option Bool → ℕ → ℕ
numbers_by (Some b) n = 0
numbers_by None n = n

abbrev pub all_reading : List Reading → Reading
all_reading rs = record {
  constant = value_of_all rs;
  numbers = numbers_by (value_of_all rs) (numbers_of rs);
  literal = λ e. gated all_clauses (literals_of (kept rs) e);
  stated = state_by (value_of_all rs) (state_each (kept rs));
}

abbrev pub any_reading : List Reading → Reading
any_reading rs = record {
  constant = value_of_any rs;
  numbers = numbers_by (value_of_any rs) (numbers_of rs);
  literal = λ e. gated any_clauses (literals_of (kept rs) e);
  stated = state_by (value_of_any rs) (state_any (kept rs));
}

abbrev pub nothing : Encoding
nothing = record { clauses = []; senses = [] }

-- the encoding of facts: each is stated, in order
abbrev pub encoded_readings : List Reading → Encoding
encoded_readings rs = state_each rs nothing

abbrev mutual
  -- the reading of a fact
  pub fact_reading : Fact → Reading
  fact_reading (known b) = truth_reading b
  fact_reading (truth_is v positive) = variable_reading v positive
  fact_reading (at_most form) = at_most_reading form
  fact_reading (above form) = above_reading form
  fact_reading (all_of fs) = all_reading (fact_readings fs)
  fact_reading (any_of fs) = any_reading (fact_readings fs)

  pub fact_readings : Facts → List Reading
  fact_readings none = []
  fact_readings (more f fs) = fact_reading f ∷ fact_readings fs

-- the value that a fact folds to, if true, false and forms without variables decide it
abbrev pub folded_value : Fact → Option Bool
folded_value fact = (fact_reading fact).constant

-- the encoding of facts
abbrev pub encoding_of : List Fact → Encoding
encoding_of facts = encoded_readings (map fact_reading facts)

-- one more than the greatest number variable of what doesn't fold away in the facts, or 0
abbrev pub numbers_of_facts : List Fact → ℕ
numbers_of_facts facts = numbers_of (map fact_reading facts)
