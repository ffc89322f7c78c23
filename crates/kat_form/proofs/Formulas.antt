-- Each formula's reading means its value, and what follows for facts.
use Rattle.std.proofs.Common.{◌≡◌, ◌≢◌, ℕ, zero, suc, ◌<◌, ◌≤◌, leb, ⊎_elim, ℤ, pos, negsuc, neg_ℤ, int_le, ◌+ℤ◌, ◌*ℤ◌, ◌≤ℤ◌, Bool, true, false, not, Option, Some, None, option_map, List, [], ◌∷◌, ◌++◌, get_or, map, All, inl, inr, refl, sym, ap, ◌∙◌, arith, subst, if◌then◌else◌}
use Rattle.std.proofs.Math.IntN.{+ℤ_idl, *ℤ_comm}
use Rattle.std.proofs.lemmas.Int.{ints, by_lt_z}
use Rattle.std.proofs.lemmas.Bool.Decides.{leb_tells}
use Rattle.std.proofs.lemmas.List.Elements.{All-nil, All-cons, All-head, All-tail}
use Rattle.kat_linear.specs.Rows.{Form, Term, negated_form, scaled_value, term_sum}
use Rattle.kat_linear.proofs.Integers.{mul_above, mul_at_most}
use Rattle.kat_linear.proofs.Contradictions.{negated_at}
use Rattle.kat_clause.specs.Valuations.{literal_value}
use Rattle.kat_form.specs.Encodings.{Encoding, Sense}
use Rattle.kat_form.specs.Encodings.Sense.{truth, atom, gate}
use Rattle.kat_form.specs.Readings.{numbered, opposite, leads_negative, atom_literal, constant_of, constant_form, truth_reading, variable_literal, variable_reading, at_most_reading, above_reading, literal_reading, numbers_in, nothing, fact_reading, fact_readings, encoding_of}
use Rattle.kat_form.specs.Facts.{Fact, Facts, forms_in, forms_in_each}
use Rattle.kat_form.specs.Facts.Fact.{known, truth_is, at_most, above, all_of, any_of}
use Rattle.kat_form.specs.Facts.Facts.{none, more}
use Rattle.kat_form.specs.Meanings.{signed, all_true, any_true, folded, row_value, value_of, values_of, AreTrueFacts, Reads, IsDecided, over_point, holds_at, hold_each_at}
use Rattle.kat_form.specs.Laws.{TruthExtends, ClausesDecide, NumbersDecide}
use Rattle.kat_form.proofs.Valuations.{Fits, Good, Has, OnwardTo, numbered_back, numbered_on}
use Rattle.kat_form.proofs.Agreement.{Meant, MeantAll, meant_literal, meant_all, meant_any, each_back, each_on, and_true, and_of}

not_not : (b : Bool) → not (not b) ≡ b
not_not true = refl
not_not false = refl

neg_neg : (l : ℤ) → neg_ℤ (neg_ℤ l) ≡ l
neg_neg (pos zero) = refl
neg_neg (pos (suc n)) = refl
neg_neg (negsuc n) = refl

-- the opposite literal has the opposite value
opposite_has : (values : ℕ → Bool) (p : ℤ × Encoding) (b : Bool) → Has values p.0 b → Has values (opposite p).0 (not b)
opposite_has values (l, e) b h = record { is = h.opposite; opposite = ap (literal_value values) (neg_neg l) ∙ h.is ∙ sym (not_not b) }

opposite_back : (values : ℕ → Bool) (model : Sense → Bool) (e : Encoding) (p : ℤ × Encoding) (b : Bool) → (Fits values model p.1 → Fits values model e × Has values p.0 b) → Fits values model (opposite p).1 → Fits values model e × Has values (opposite p).0 (not b)
opposite_back values model e (l, e') b back fits = let h = back fits in (h.0, opposite_has values (l, e') b h.1)

opposite_on : (values : ℕ → Bool) (model : Sense → Bool) (e : Encoding) (p : ℤ × Encoding) (b : Bool) → OnwardTo values model e p b → OnwardTo values model e (opposite p) (not b)
opposite_on values model e (l, e') b to = record { onward = to.onward; has = λ w same. opposite_has w (l, e') b (to.has w same) }

plain_truth : (v : ℕ) → truth v ≢ gate
plain_truth v e = absurd (cc)

plain_atom : (form : Form) → atom form ≢ gate
plain_atom form e = absurd (cc)

-- a literal's two directions
record Says (model : Sense → Bool) (literal : Encoding → ℤ × Encoding) (b : Bool) : Type 0 where
  back : (values : ℕ → Bool) (e : Encoding) → Fits values model (literal e).1 → Fits values model e × Has values (literal e).0 b
  on : (values : ℕ → Bool) (e : Encoding) → Good values model e → OnwardTo values model e (literal e) b

numbered_says : (model : Sense → Bool) (s : Sense) → s ≢ gate → Says model (numbered s) (model s)
numbered_says model s plain = record { back = λ values e. numbered_back values model s e plain; on = λ values e. numbered_on values model s e plain }

opposite_says : (model : Sense → Bool) (literal : Encoding → ℤ × Encoding) (b : Bool) → Says model literal b → Says model (λ e. opposite (literal e)) (not b)
opposite_says model literal b says = record {
  back = λ values e. opposite_back values model e (literal e) b (says.back values e);
  on = λ values e good. opposite_on values model e (literal e) b (says.on values e good);
}

variable_says : (model : Sense → Bool) (v : ℕ) (positive : Bool) → Says model (variable_literal v positive) (signed positive (model (truth v)))
variable_says model v true = numbered_says model (truth v) (plain_truth v)
variable_says model v false = opposite_says model (numbered (truth v)) (model (truth v)) (numbered_says model (truth v) (plain_truth v))

abbrev turned : Bool → Form → Encoding → ℤ × Encoding
turned b form e = if b then opposite (numbered (atom (negated_form form)) e) else numbered (atom form) e

abbrev turned_value : (Sense → Bool) → Bool → Form → Bool
turned_value model b form = if b then not (model (atom (negated_form form))) else model (atom form)

turned_says : (model : Sense → Bool) (form : Form) (b : Bool) → Says model (turned b form) (turned_value model b form)
turned_says model form true = opposite_says model (numbered (atom (negated_form form))) (model (atom (negated_form form))) (numbered_says model (atom (negated_form form)) (plain_atom (negated_form form)))
turned_says model form false = numbered_says model (atom form) (plain_atom form)

atom_says : (model : Sense → Bool) (form : Form) → Says model (atom_literal form) (turned_value model (leads_negative form.terms) form)
atom_says model form = turned_says model form (leads_negative form.terms)

folds_by : (o : Option Bool) (x c : Bool) → o ≡ Some c → folded o x ≡ c
folds_by (Some b) x c e = cc
folds_by None x c e = absurd (cc)

open_value : (o : Option Bool) (x : Bool) → o ≡ None → x ≡ folded o x
open_value (Some b) x e = absurd (cc)
open_value None x e = refl

folds_not : (o : Option Bool) (x c : Bool) → option_map not o ≡ Some c → not (folded o x) ≡ c
folds_not (Some b) x c e = cc
folds_not None x c e = absurd (cc)

open_not : (o : Option Bool) (x : Bool) → option_map not o ≡ None → not x ≡ not (folded o x)
open_not (Some b) x e = absurd (cc)
open_not None x e = refl

-- a literal whose value is told by an equation
literal_meant : (model : Sense → Bool) (constant : Option Bool) (numbers : ℕ) (literal : Encoding → ℤ × Encoding) (b b' : Bool) → Says model literal b → ((c : Bool) → constant ≡ Some c → b' ≡ c) → (constant ≡ None → b ≡ b') → Meant model (literal_reading constant numbers literal) b'
literal_meant model constant numbers literal b b' says folds same = meant_literal model constant numbers literal b' folds
    (λ open' values e fits. let h = says.back values e fits in (h.0, subst (Has values (literal e).0) (same open') h.1))
    (λ open' values e good. subst (OnwardTo values model e (literal e)) (same open') (says.on values e good))

truth_meant : (model : Sense → Bool) (b : Bool) → Meant model (truth_reading b) b
truth_meant model b = meant_literal model (Some b) 0 (λ e. (pos 0, e)) b (λ c e. same b c e) (λ open'. absurd (cc)) (λ open'. absurd (cc))
  where
    same : (x y : Bool) → Some x ≡ Some y → x ≡ y
    same x y e = cc

variable_meant : (model : Sense → Bool) (v : ℕ) (positive : Bool) → Meant model (variable_reading v positive) (signed positive (model (truth v)))
variable_meant model v positive = literal_meant model None 0 (variable_literal v positive) (signed positive (model (truth v))) (signed positive (model (truth v))) (variable_says model v positive) (λ c e. absurd (cc)) (λ e. refl)

at_most_meant : (model : Sense → Bool) (form : Form) → Meant model (at_most_reading form) (row_value model form)
at_most_meant model form =
    let x = turned_value model (leads_negative form.terms) form in
    literal_meant model (constant_form form) (numbers_in form.terms) (atom_literal form) x (row_value model form) (atom_says model form) (λ c e. folds_by (constant_form form) x c e) (λ e. open_value (constant_form form) x e)

above_meant : (model : Sense → Bool) (form : Form) → Meant model (above_reading form) (not (row_value model form))
above_meant model form =
    let x = turned_value model (leads_negative form.terms) form in
    literal_meant model (option_map not (constant_form form)) (numbers_in form.terms) (λ e. opposite (atom_literal form e)) (not x) (not (row_value model form)) (opposite_says model (atom_literal form) x (atom_says model form)) (λ c e. folds_not (constant_form form) x c e) (λ e. open_not (constant_form form) x e)

-- a fact's reading means its value
mutual
  fact_meant : (model : Sense → Bool) (f : Fact) → Meant model (fact_reading f) (value_of model f)
  fact_meant model (known b) = truth_meant model b
  fact_meant model (truth_is v positive) = variable_meant model v positive
  fact_meant model (at_most form) = at_most_meant model form
  fact_meant model (above form) = above_meant model form
  fact_meant model (all_of fs) = meant_all model (fact_readings fs) (values_of model fs) (parts_meant model fs)
  fact_meant model (any_of fs) = meant_any model (fact_readings fs) (values_of model fs) (parts_meant model fs)

  parts_meant : (model : Sense → Bool) (fs : Facts) → MeantAll model (fact_readings fs) (values_of model fs)
  parts_meant model none = tt
  parts_meant model (more f fs) = (fact_meant model f, parts_meant model fs)

pub facts_meant : (model : Sense → Bool) (facts : List Fact) → MeantAll model (map fact_reading facts) (map (value_of model) facts)
facts_meant model [] = tt
facts_meant model (f ∷ fs) = (fact_meant model f, facts_meant model fs)

all_from : (model : Sense → Bool) (facts : List Fact) → all_true (map (value_of model) facts) ≡ true → AreTrueFacts model facts
all_from model [] e = All-nil (λ fact. value_of model fact ≡ true)
all_from model (f ∷ fs) e = let parts = and_true (value_of model f) (all_true (map (value_of model) fs)) e in All-cons (λ fact. value_of model fact ≡ true) f fs parts.0 (all_from model fs parts.1)

pub all_to : (model : Sense → Bool) (facts : List Fact) → AreTrueFacts model facts → all_true (map (value_of model) facts) ≡ true
all_to model [] h = refl
all_to model (f ∷ fs) h = and_of (value_of model f) (all_true (map (value_of model) fs)) (All-head (λ fact. value_of model fact ≡ true) f fs h) (all_to model fs (All-tail (λ fact. value_of model fact ≡ true) f fs h))

pub good_nothing : (model : Sense → Bool) (values : ℕ → Bool) → Good values model nothing
good_nothing model values w same = record { reads = nowhere; clauses = All-nil _ }
  where
    nowhere : Reads w model []
    nowhere zero sense at not_gate = absurd (cc)
    nowhere (suc v) sense at not_gate = absurd (cc)

pub truth_extends : TruthExtends
truth_extends model facts hold =
    let values : ℕ → Bool = λ v. false in
    let onward = each_on values model (map fact_reading facts) (map (value_of model) facts) nothing (facts_meant model facts) (all_to model facts hold) (good_nothing model values) in
    let fits : Fits onward.later model (encoding_of facts) = onward.good onward.later (λ v h. refl) in
    (onward.later, (fits.reads, fits.clauses))

pub clauses_decide : ClausesDecide
clauses_decide model facts values reads hold =
    all_from model facts (each_back values model (map fact_reading facts) (map (value_of model) facts) nothing (facts_meant model facts) (record { reads = reads; clauses = hold })).1

-- over whole numbers a row and its negation have opposite values
pub met_le : (x : ℤ) → x ≤ℤ pos 0 → int_le x (pos 0) ≡ true
met_le (pos zero) h = refl
met_le (pos (suc n)) h = absurd (omega (arith, ints))
met_le (negsuc n) h = refl

pub unmet_le : (x : ℤ) → (x ≤ℤ pos 0 → ⊥) → int_le x (pos 0) ≡ false
unmet_le (pos zero) h = absurd (h (omega (arith, ints)))
unmet_le (pos (suc n)) h = ⊎_elim (λ (k : (leb (suc n) 0 ≡ true) × (suc n ≤ 0)). absurd (omega (arith, k.1))) (λ (k : (leb (suc n) 0 ≡ false) × (0 < suc n)). k.0) (leb_tells (suc n) 0)
unmet_le (negsuc n) h = absurd (h (omega (arith, ints)))

split_forms : (P : Form → Type 0) (xs ys : List Form) → All P (xs ++ ys) → All P xs × All P ys
split_forms P [] ys h = (All-nil P, h)
split_forms P (x ∷ xs) ys h =
    let rest = split_forms P xs ys (All-tail P x (xs ++ ys) h) in
    (All-cons P x xs (All-head P x (xs ++ ys) h) rest.0, rest.1)

-- at a point at which the form's negation is at most 0 or at least 1
turned_at : (truths : ℕ → Bool) (den : ℕ) (nums : ℕ → ℤ) (form : Form) (b : Bool) → 0 < den → IsDecided den nums form → turned_value (over_point truths den nums) b form ≡ int_le (scaled_value den nums form) (pos 0)
turned_at truths den nums form false so decided = refl
turned_at truths den nums form true so decided =
    let e : scaled_value den nums (negated_form form) +ℤ scaled_value den nums form ≡ pos den = negated_at form den nums in
    ⊎_elim
    (λ (low : scaled_value den nums form ≤ℤ pos 0). ap not (unmet_le (scaled_value den nums (negated_form form)) (λ k. omega (arith, ints))) ∙ sym (met_le (scaled_value den nums form) low))
    (λ (high : pos den ≤ℤ scaled_value den nums form). ap not (met_le (scaled_value den nums (negated_form form)) (omega (arith, ints))) ∙ sym (unmet_le (scaled_value den nums form) (λ k. omega (arith, ints))))
    decided

-- a number is at most 0 if its product with a number above 0 is
scaled_sign : (c : ℤ) (den : ℕ) → 0 < den → int_le (c *ℤ pos den) (pos 0) ≡ int_le c (pos 0)
scaled_sign c den so = by_lt_z {P = int_le (c *ℤ pos den) (pos 0) ≡ int_le c (pos 0)} (pos 0) c
    (λ high. unmet_le (c *ℤ pos den) (λ k. let more = mul_above c den high so in omega (arith, ints)) ∙ sym (unmet_le c (λ k. omega (arith, ints))))
    (λ low. met_le (c *ℤ pos den) (let e : pos den *ℤ c ≡ c *ℤ pos den = *ℤ_comm (pos den) c in let h = mul_at_most (pos den) c (omega (arith, ints)) low in omega (arith, ints)) ∙ sym (met_le c low))

row_at : (truths : ℕ → Bool) (den : ℕ) (nums : ℕ → ℤ) (form : Form) → 0 < den → IsDecided den nums form → row_value (over_point truths den nums) form ≡ int_le (scaled_value den nums form) (pos 0)
row_at truths den nums form so decided = by_terms form.terms refl
  where
    by_terms : (ts : List Term) → form.terms ≡ ts → folded (constant_of form.terms form.constant) (turned_value (over_point truths den nums) (leads_negative form.terms) form) ≡ int_le (scaled_value den nums form) (pos 0)
    by_terms [] e =
        let value : scaled_value den nums form ≡ form.constant *ℤ pos den = ap (λ ts'. term_sum nums ts' +ℤ form.constant *ℤ pos den) e ∙ +ℤ_idl (form.constant *ℤ pos den) in
        ap (λ ts'. folded (constant_of ts' form.constant) (turned_value (over_point truths den nums) (leads_negative form.terms) form)) e
        ∙ sym (scaled_sign form.constant den so) ∙ ap (λ x. int_le x (pos 0)) (sym value)
    by_terms (t ∷ ts) e =
        ap (λ ts'. folded (constant_of ts' form.constant) (turned_value (over_point truths den nums) (leads_negative form.terms) form)) e ∙ turned_at truths den nums form (leads_negative form.terms) so decided

mutual
  pub points_decide : (truths : ℕ → Bool) (den : ℕ) → 0 < den → (nums : ℕ → ℤ) (fact : Fact) → All (IsDecided den nums) (forms_in fact) → value_of (over_point truths den nums) fact ≡ holds_at truths den nums fact
  points_decide truths den so nums (known b) h = refl
  points_decide truths den so nums (truth_is v positive) h = refl
  points_decide truths den so nums (at_most form) h = row_at truths den nums form so (All-head (IsDecided den nums) form [] h)
  points_decide truths den so nums (above form) h = ap not (row_at truths den nums form so (All-head (IsDecided den nums) form [] h))
  points_decide truths den so nums (all_of fs) h = ap all_true (parts_decide truths den so nums fs h)
  points_decide truths den so nums (any_of fs) h = ap any_true (parts_decide truths den so nums fs h)

  parts_decide : (truths : ℕ → Bool) (den : ℕ) → 0 < den → (nums : ℕ → ℤ) (fs : Facts) → All (IsDecided den nums) (forms_in_each fs) → values_of (over_point truths den nums) fs ≡ hold_each_at truths den nums fs
  parts_decide truths den so nums none h = refl
  parts_decide truths den so nums (more f fs) h =
      let parts = split_forms (IsDecided den nums) (forms_in f) (forms_in_each fs) h in
      let first = points_decide truths den so nums f parts.0 in
      let rest = parts_decide truths den so nums fs parts.1 in
      cc

-- each form is decided over whole numbers
pub whole_decided : (nums : ℕ → ℤ) (form : Form) → IsDecided 1 nums form
whole_decided nums form = by_lt_z {P = IsDecided 1 nums form} (pos 0) (scaled_value 1 nums form) (λ high. inr (omega (arith, ints))) (λ low. inl low)

pub numbers_decide : NumbersDecide
numbers_decide truths nums fact = points_decide truths 1 (omega arith) nums fact (λ i d below. whole_decided nums (get_or (forms_in fact) i d))
