-- The laws of fit encodings.
use Rattle.std.proofs.Common.{◌≡◌, ℕ, zero, suc, ◌+◌, ◌<◌, ◌≤◌, ◌^◌, ⊎_elim, inl, inr, ℤ, ◌≤ℤ◌, ◌+ℤ◌, pos, negsuc, neg_ℤ, ◌-ℤ◌, unsigned_abs, Bool, Option, Some, None, List, [], ◌∷◌, ◌++◌, get_or, map, All, Contains, refl, ap, arith, subst}
use Rattle.std.proofs.lemmas.Int.{ints}
use Rattle.std.proofs.lemmas.List.Elements.{All-nil, All-cons, All-head, All-tail, All-map}
use Rattle.kat_linear.specs.Rows.{Form, Term, IsAscending, negated_form, scaled_value}
use Rattle.kat_linear.proofs.Contradictions.{ascending_negated, negated_at}
use Rattle.kat_form.specs.Encodings.{Sense, IsFitForm, IsFitSense, IsBelow, atom_at, form_in, StandOnce}
use Rattle.kat_form.specs.Encodings.Sense.{truth, atom, gate}
use Rattle.kat_form.specs.Facts.{Fact, Facts, forms_in, forms_in_each, forms_among, IsSized}
use Rattle.kat_form.specs.Facts.Fact.{known, truth_is, at_most, above, all_of, any_of}
use Rattle.kat_form.specs.Facts.Facts.{none, more}
use Rattle.kat_form.specs.Readings.{numbers_in, numbers_by, numbers_of, value_of_all, value_of_any, place_of, fact_reading, fact_readings, encoding_of, numbers_of_facts}
use Rattle.kat_form.specs.Meanings.{Reads, IsDecided}
use Rattle.kat_form.specs.Laws.{variable_value, read_by, ValuationsDecide, EncodingsAreWhole, NumbersSuffice, SizedFactsAreFit}
use Rattle.kat_form.proofs.Valuations.{sense_placed}
use Rattle.kat_form.proofs.Formulas.{clauses_decide}
use Rattle.kat_form.proofs.Fit.{Turns, Allows, AllowsAll, built_facts, no_place}

-- what each form in the facts has
left_forms : (P : Form → Type 0) (xs ys : List Form) → All P (xs ++ ys) → All P xs
left_forms P [] ys h = All-nil P
left_forms P (x ∷ xs) ys h = All-cons P x xs (All-head P x (xs ++ ys) h) (left_forms P xs ys (All-tail P x (xs ++ ys) h))

right_forms : (P : Form → Type 0) (xs ys : List Form) → All P (xs ++ ys) → All P ys
right_forms P [] ys h = h
right_forms P (x ∷ xs) ys h = right_forms P xs ys (All-tail P x (xs ++ ys) h)

pub forms_at : (P : Form → Type 0) (facts : List Fact) → All P (forms_among facts) → (f : Fact) → Contains facts f → All P (forms_in f)
forms_at P [] h f has = absurd (omega (arith, has.1))
forms_at P (g ∷ gs) h f (zero, below, e) = let Q : Fact → Type 0 = λ x. All P (forms_in x) in subst Q e (left_forms P (forms_in g) (forms_among gs) h)
forms_at P (g ∷ gs) h f (suc j, below, e) = forms_at P gs (right_forms P (forms_in g) (forms_among gs) h) f (j, omega (arith, below), e)

-- nothing is asked
mutual
  allows_any : (f : Fact) → Allows (λ s. Unit {0}) f
  allows_any (known b) = tt
  allows_any (truth_is v positive) = tt
  allows_any (at_most form) = λ e. (tt, tt)
  allows_any (above form) = λ e. (tt, tt)
  allows_any (all_of fs) = λ e. allow_any fs
  allows_any (any_of fs) = λ e. allow_any fs

  allow_any : (fs : Facts) → AllowsAll (λ s. Unit {0}) fs
  allow_any none = tt
  allow_any (more f fs) = (allows_any f, allow_any fs)

pub encodings_are_whole : EncodingsAreWhole
encodings_are_whole facts = let built = built_facts (λ s. Unit {0}) tt facts (λ f has. allows_any f) in (built.literals, built.once)

-- sized forms fit, as they are and turned
abbrev Good : Form → Type 0
Good form = IsSized form × IsAscending form

fit_sized : (form : Form) → Good form → IsFitForm form
fit_sized form good = record {
  ascending = good.1;
  coefficients = λ i d h. let small : unsigned_abs (get_or form.terms i d).1 ≤ 2 ^ 125 = good.0.coefficients i d h in omega (arith, small);
  constant = omega (arith, good.0.constant);
}

abs_turned : (z : ℤ) → unsigned_abs (neg_ℤ z) ≡ unsigned_abs z
abs_turned (pos zero) = refl
abs_turned (pos (suc n)) = refl
abs_turned (negsuc n) = refl

abs_less : (z : ℤ) (n : ℕ) → unsigned_abs z ≤ n → unsigned_abs (pos 1 -ℤ z) ≤ n + 1
abs_less z n h = omega (arith, ints, h)

fit_turned : (form : Form) → Good form → IsFitForm (negated_form form)
fit_turned form good = record {
  ascending = ascending_negated form good.1;
  coefficients = All-map (λ (t : Term). unsigned_abs t.1 ≤ 2 ^ 126) (λ (t : Term). (t.0, neg_ℤ t.1)) form.terms
      (λ i d h. let small : unsigned_abs (get_or form.terms i d).1 ≤ 2 ^ 125 = good.0.coefficients i d h in omega (arith, small, abs_turned (get_or form.terms i d).1));
  constant = omega (arith, abs_less form.constant (2 ^ 125) good.0.constant);
}

mutual
  allows_sized : (f : Fact) → All Good (forms_in f) → Allows IsFitSense f
  allows_sized (known b) h = tt
  allows_sized (truth_is v positive) h = tt
  allows_sized (at_most form) h = λ e. let good = All-head Good form [] h in (fit_sized form good, fit_turned form good)
  allows_sized (above form) h = λ e. let good = All-head Good form [] h in (fit_sized form good, fit_turned form good)
  allows_sized (all_of fs) h = λ e. allow_sized fs h
  allows_sized (any_of fs) h = λ e. allow_sized fs h

  allow_sized : (fs : Facts) → All Good (forms_in_each fs) → AllowsAll IsFitSense fs
  allow_sized none h = tt
  allow_sized (more f fs) h = (allows_sized f (left_forms Good (forms_in f) (forms_in_each fs) h), allow_sized fs (right_forms Good (forms_in f) (forms_in_each fs) h))

pub sized_facts_are_fit : SizedFactsAreFit
sized_facts_are_fit facts sized ascending =
    let good : All Good (forms_among facts) = λ i d h. (sized i d h, ascending i d h) in
    let built = built_facts IsFitSense tt facts (λ f has. allows_sized f (forms_at Good facts good f has)) in
    record { literals = built.literals; atoms = built.senses }

-- variables below a number
terms_below : (n : ℕ) (ts : List Term) → numbers_in ts ≤ n → All (λ (t : Term). t.0 < n) ts
terms_below n [] h = All-nil (λ (t : Term). t.0 < n)
terms_below n (t ∷ ts) h = All-cons (λ (t : Term). t.0 < n) t ts (omega (arith, h)) (terms_below n ts (omega (arith, h)))

turns_below : (n : ℕ) (form : Form) → numbers_in form.terms ≤ n → Turns (IsBelow n) form
turns_below n form h =
    let all = terms_below n form.terms h in
    (all, All-map (λ (t : Term). t.0 < n) (λ (t : Term). (t.0, neg_ℤ t.1)) form.terms all)

by_open : (o : Option Bool) (m n : ℕ) → o ≡ None → numbers_by o m ≤ n → m ≤ n
by_open (Some b) m n e h = absurd (cc)
by_open None m n e h = h

mutual
  allows_below : (n : ℕ) (f : Fact) → (fact_reading f).numbers ≤ n → Allows (IsBelow n) f
  allows_below n (known b) h = tt
  allows_below n (truth_is v positive) h = tt
  allows_below n (at_most form) h = λ e. turns_below n form h
  allows_below n (above form) h = λ e. turns_below n form h
  allows_below n (all_of fs) h = λ e. allow_below n fs (by_open (value_of_all (fact_readings fs)) (numbers_of (fact_readings fs)) n e h)
  allows_below n (any_of fs) h = λ e. allow_below n fs (by_open (value_of_any (fact_readings fs)) (numbers_of (fact_readings fs)) n e h)

  allow_below : (n : ℕ) (fs : Facts) → numbers_of (fact_readings fs) ≤ n → AllowsAll (IsBelow n) fs
  allow_below n none h = tt
  allow_below n (more f fs) h = (allows_below n f (omega (arith, h)), allow_below n fs (omega (arith, h)))

numbers_at : (facts : List Fact) (f : Fact) → Contains facts f → (fact_reading f).numbers ≤ numbers_of (map fact_reading facts)
numbers_at [] f has = absurd (omega (arith, has.1))
numbers_at (g ∷ gs) f (zero, h, e) = let P : Fact → Type 0 = λ x. (fact_reading x).numbers ≤ numbers_of (map fact_reading (g ∷ gs)) in subst P e (omega arith)
numbers_at (g ∷ gs) f (suc j, h, e) = let rest = numbers_at gs f (j, omega (arith, h), e) in omega (arith, rest)

pub numbers_suffice : NumbersSuffice
numbers_suffice facts = (built_facts (IsBelow (numbers_of_facts facts)) tt facts (λ f has. allows_below (numbers_of_facts facts) f (numbers_at facts f has))).senses

-- each variable has the value of the first that stands for its sense, which is itself
reads_by : (values : ℕ → Bool) (senses : List Sense) → StandOnce senses → Reads values (read_by values senses) senses
reads_by values senses once v sense at plain = by_place (place_of sense senses) refl
  where
    by_place : (o : Option ℕ) → place_of sense senses ≡ o → values v ≡ variable_value values o
    by_place None e = absurd (no_place sense senses v plain e at)
    by_place (Some w) e = ap values (once sense plain v w at (sense_placed sense senses w e))

pub valuations_decide : ValuationsDecide
valuations_decide facts values =
    let reads = reads_by values (encoding_of facts).senses (encodings_are_whole facts).1 in
    (reads, λ hold. clauses_decide (read_by values (encoding_of facts).senses) facts values reads hold)

-- atoms that are decided, as their forms or the forms' negations are
abbrev pub IsDecidedSense : ℕ → (ℕ → ℤ) → Sense → Type 0
IsDecidedSense den nums (truth v) = Unit {0}
IsDecidedSense den nums (atom form) = IsDecided den nums form
IsDecidedSense den nums gate = Unit {0}

decided_turned : (den : ℕ) (nums : ℕ → ℤ) (form : Form) → IsDecided den nums form → IsDecided den nums (negated_form form)
decided_turned den nums form decided =
    let whole : scaled_value den nums (negated_form form) +ℤ scaled_value den nums form ≡ pos den = negated_at form den nums in
    ⊎_elim
    (λ (low : scaled_value den nums form ≤ℤ pos 0). inr (omega (arith, ints, whole, low)))
    (λ (high : pos den ≤ℤ scaled_value den nums form). inl (omega (arith, ints, whole, high)))
    decided

mutual
  allows_decided : (den : ℕ) (nums : ℕ → ℤ) (f : Fact) → All (IsDecided den nums) (forms_in f) → Allows (IsDecidedSense den nums) f
  allows_decided den nums (known b) h = tt
  allows_decided den nums (truth_is v positive) h = tt
  allows_decided den nums (at_most form) h = λ e. let d = All-head (IsDecided den nums) form [] h in (d, decided_turned den nums form d)
  allows_decided den nums (above form) h = λ e. let d = All-head (IsDecided den nums) form [] h in (d, decided_turned den nums form d)
  allows_decided den nums (all_of fs) h = λ e. allow_decided den nums fs h
  allows_decided den nums (any_of fs) h = λ e. allow_decided den nums fs h

  allow_decided : (den : ℕ) (nums : ℕ → ℤ) (fs : Facts) → All (IsDecided den nums) (forms_in_each fs) → AllowsAll (IsDecidedSense den nums) fs
  allow_decided den nums none h = tt
  allow_decided den nums (more f fs) h = (allows_decided den nums f (left_forms (IsDecided den nums) (forms_in f) (forms_in_each fs) h), allow_decided den nums fs (right_forms (IsDecided den nums) (forms_in f) (forms_in_each fs) h))

atom_decided : (den : ℕ) (nums : ℕ → ℤ) (senses : List Sense) → All (IsDecidedSense den nums) senses → (v : ℕ) (form : Form) → atom_at senses v ≡ Some form → IsDecided den nums form
atom_decided den nums senses h zero form e = absurd (cc)
atom_decided den nums [] h (suc v) form e = absurd (cc)
atom_decided den nums (s ∷ ss) h (suc zero) form e = at s (All-head (IsDecidedSense den nums) s ss h) e
  where
    at : (x : Sense) → IsDecidedSense den nums x → form_in x ≡ Some form → IsDecided den nums form
    at (truth v) d e' = absurd (cc)
    at (atom f) d e' = let same : f ≡ form = cc in subst (IsDecided den nums) same d
    at gate d e' = absurd (cc)
atom_decided den nums (s ∷ ss) h (suc (suc v)) form e = atom_decided den nums ss (All-tail (IsDecidedSense den nums) s ss h) (suc v) form e

pub atoms_decided : (den : ℕ) (nums : ℕ → ℤ) (facts : List Fact) → All (IsDecided den nums) (forms_among facts) → (v : ℕ) (form : Form) → atom_at (encoding_of facts).senses v ≡ Some form → IsDecided den nums form
atoms_decided den nums facts h = atom_decided den nums (encoding_of facts).senses
    (built_facts (IsDecidedSense den nums) tt facts (λ f has. allows_decided den nums f (forms_at (IsDecided den nums) facts h f has))).senses
