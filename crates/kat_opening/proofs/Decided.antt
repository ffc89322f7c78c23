-- Facts of whose encoding each atom is decided are those whose open parts are decided.
use Rattle.std.proofs.Common.{◌≡◌, ℕ, zero, suc, ⊎_elim, inl, inr, ℤ, pos, ◌≤ℤ◌, ◌+ℤ◌, Bool, true, false, not, if◌then◌else◌, Option, Some, None, option_map, List, [], ◌∷◌, ◌++◌, map, All, Contains, refl, ap, subst, arith}
use Rattle.std.proofs.lemmas.Int.{ints}
use Rattle.std.proofs.lemmas.List.Elements.{All-nil, All-cons, All-head, All-tail}
use Rattle.kat_linear.specs.Rows.{Form, negated_form, scaled_value}
use Rattle.kat_linear.proofs.Contradictions.{negated_at}
use Rattle.kat_form.specs.Encodings.{Encoding, Sense, form_in, sense_at}
use Rattle.kat_form.specs.Encodings.Sense.{truth, atom, gate}
use Rattle.kat_form.specs.Facts.{Fact, Facts}
use Rattle.kat_form.specs.Facts.Fact.{known, truth_is, at_most, above, all_of, any_of}
use Rattle.kat_form.specs.Facts.Facts.{none, more}
use Rattle.kat_form.specs.Readings.{Reading, place_of, number_at, numbered, opposite, leads_negative, atom_literal, constant_form, unit_clause, state_constant, state_by, literal_reading, variable_literal, value_of_all, value_of_any, kept, kept_by, literals_of, all_clauses, any_clauses, gated, state_each, state_any, nothing, encoding_of, fact_reading, fact_readings, folded_value}
use Rattle.kat_form.specs.Meanings.{IsDecided}
use Rattle.kat_form.proofs.Valuations.{sense_placed}
use Rattle.kat_form.proofs.Fit.{Turns, Allows, AllowsAll, built_facts}
use Rattle.kat_refute.specs.Laws.{DecidesAtoms}

-- an atom is decided at a point
abbrev pub DecidedSense : ℕ → (ℕ → ℤ) → Sense → Type 0
DecidedSense den nums (truth v) = Unit {0}
DecidedSense den nums (atom form) = IsDecided den nums form
DecidedSense den nums gate = Unit {0}

pub turned_decided : (den : ℕ) (nums : ℕ → ℤ) (form : Form) → IsDecided den nums form → IsDecided den nums (negated_form form)
turned_decided den nums form decided =
    let whole : scaled_value den nums (negated_form form) +ℤ scaled_value den nums form ≡ pos den = negated_at form den nums in
    ⊎_elim
    (λ (low : scaled_value den nums form ≤ℤ pos 0). inr (omega (arith, ints, whole, low)))
    (λ (high : pos den ≤ℤ scaled_value den nums form). inl (omega (arith, ints, whole, high)))
    decided

decided_turned : (den : ℕ) (nums : ℕ → ℤ) (form : Form) → IsDecided den nums (negated_form form) → IsDecided den nums form
decided_turned den nums form decided =
    let whole : scaled_value den nums (negated_form form) +ℤ scaled_value den nums form ≡ pos den = negated_at form den nums in
    ⊎_elim
    (λ (low : scaled_value den nums (negated_form form) ≤ℤ pos 0). inr (omega (arith, ints, whole, low)))
    (λ (high : pos den ≤ℤ scaled_value den nums (negated_form form)). inl (omega (arith, ints, whole, high)))
    decided

-- an element of senses that all have a property
sense_has : (P : Sense → Type 0) (senses : List Sense) (v : ℕ) (s : Sense) → All P senses → sense_at senses v ≡ Some s → P s
sense_has P senses zero s all e = absurd (cc)
sense_has P [] (suc v) s all e = absurd (cc)
sense_has P (x ∷ xs) (suc zero) s all e = let is : x ≡ s = cc in subst P is (All-head P x xs all)
sense_has P (x ∷ xs) (suc (suc v)) s all e = sense_has P xs (suc v) s (All-tail P x xs all) e

before_last : (P : Sense → Type 0) (xs : List Sense) (x : Sense) → All P (xs ++ x ∷ []) → All P xs × P x
before_last P [] x all = (All-nil P, All-head P x [] all)
before_last P (y ∷ ys) x all =
    let rest = before_last P ys x (All-tail P y (ys ++ x ∷ []) all) in
    (All-cons P y ys (All-head P y (ys ++ x ∷ []) all) rest.0, rest.1)

module _ (P : Sense → Type 0) (forth : (form : Form) → P (atom form) → P (atom (negated_form form))) (back : (form : Form) → P (atom (negated_form form)) → P (atom form)) where
  numbered_has : (s : Sense) (e : Encoding) → All P (numbered s e).1.senses → All P e.senses × P s
  numbered_has s e all = by_place (place_of s e.senses) refl all
    where
      by_place : (o : Option ℕ) → place_of s e.senses ≡ o → All P (number_at o s e).1.senses → All P e.senses × P s
      by_place (Some v) is all' = (all', sense_has P e.senses v s all' (sense_placed s e.senses v is))
      by_place None is all' = before_last P e.senses s all'

  opposite_senses : (p : ℤ × Encoding) → (opposite p).1.senses ≡ p.1.senses
  opposite_senses (l, e) = refl

  opposite_has : (p : ℤ × Encoding) → All P (opposite p).1.senses → All P p.1.senses
  opposite_has p all = subst (All P) (opposite_senses p) all

  atom_has : (form : Form) (e : Encoding) → All P (atom_literal form e).1.senses → All P e.senses × Turns P form
  atom_has form e all = by_sign (leads_negative form.terms) all
    where
      by_sign : (b : Bool) → All P (if b then opposite (numbered (atom (negated_form form)) e) else numbered (atom form) e).1.senses → All P e.senses × Turns P form
      by_sign true all' = let h = numbered_has (atom (negated_form form)) e (opposite_has (numbered (atom (negated_form form)) e) all') in (h.0, (back form h.1, h.1))
      by_sign false all' = let h = numbered_has (atom form) e all' in (h.0, (h.1, forth form h.1))

  variable_has : (v : ℕ) (positive : Bool) (e : Encoding) → All P (variable_literal v positive e).1.senses → All P e.senses × P (truth v)
  variable_has v true e all = numbered_has (truth v) e all
  variable_has v false e all = numbered_has (truth v) e (opposite_has (numbered (truth v) e) all)

  -- a reading whose senses, while it is open, need D
  record Needs (r : Reading) (D : Type 0) : Type 0 where
    literal : r.constant ≡ None → (e : Encoding) → All P (r.literal e).1.senses → All P e.senses × D
    stated : (e : Encoding) → All P (r.stated e).senses → All P e.senses × (r.constant ≡ None → D)

  constant_senses : (b : Bool) (e : Encoding) → (state_constant b e).senses ≡ e.senses
  constant_senses true e = refl
  constant_senses false e = refl

  needs_by : (D : Type 0) (constant : Option Bool) (state : Encoding → Encoding) (e : Encoding) → ((constant ≡ None) → All P (state e).senses → All P e.senses × D) → All P (state_by constant state e).senses → All P e.senses × (constant ≡ None → D)
  needs_by D (Some b) state e h all = (subst (All P) (constant_senses b e) all, λ is. absurd (cc))
  needs_by D None state e h all = let x = h refl all in (x.0, λ is. x.1)

  unit_senses : (p : ℤ × Encoding) → (unit_clause p).senses ≡ p.1.senses
  unit_senses (l, e) = refl

  needs_literal : (D : Type 0) (constant : Option Bool) (numbers : ℕ) (literal : Encoding → ℤ × Encoding) → (constant ≡ None → (e : Encoding) → All P (literal e).1.senses → All P e.senses × D) → Needs (literal_reading constant numbers literal) D
  needs_literal D constant numbers literal h = record {
    literal = h;
    stated = λ e all. needs_by D constant (λ x. unit_clause (literal x)) e (λ is all'. h is e (subst (All P) (unit_senses (literal e)) all')) all;
  }

  -- some readings, as literals and stated
  record NeedsList (rs : List Reading) (D : Type 0) : Type 0 where
    literals : (e : Encoding) → All P (literals_of rs e).1.senses → All P e.senses × D
    each : (e : Encoding) → All P (state_each rs e).senses → All P e.senses × D

  gated_has : (clauses : ℤ → List ℤ → List (List ℤ)) (p : List ℤ × Encoding) → All P (gated clauses p).1.senses → All P p.1.senses
  gated_has clauses ([], e) all = all
  gated_has clauses (l ∷ [], e) all = all
  gated_has clauses (l ∷ m ∷ ls, e) all = (before_last P e.senses gate all).0

  any_has : (rs : List Reading) (D : Type 0) → NeedsList rs D → (e : Encoding) → All P (state_any rs e).senses → All P e.senses × D
  any_has [] D needs e all = needs.literals e all
  any_has (r ∷ []) D needs e all = needs.each e all
  any_has (r ∷ s ∷ rs) D needs e all = needs.literals e all

  folded_allows : (f : Fact) (b : Bool) → folded_value f ≡ Some b → Allows P f
  folded_allows (known k) b is = tt
  folded_allows (truth_is v positive) b is = absurd (cc)
  folded_allows (at_most form) b is = λ e. absurd (cc)
  folded_allows (above form) b is = λ e. absurd (let gone : option_map not (constant_form form) ≡ None = ap (option_map not) e in cc)
  folded_allows (all_of fs) b is = λ e. absurd (cc)
  folded_allows (any_of fs) b is = λ e. absurd (cc)

  list_more : (f : Fact) (fs : Facts) → Needs (fact_reading f) (Allows P f) → NeedsList (kept (fact_readings fs)) (AllowsAll P fs) → (o : Option Bool) → folded_value f ≡ o
      → NeedsList (kept_by o (fact_reading f) (kept (fact_readings fs))) (AllowsAll P (more f fs))
  list_more f fs first rest (Some b) is = record {
    literals = λ e all. let x = rest.literals e all in (x.0, (folded_allows f b is, x.1));
    each = λ e all. let x = rest.each e all in (x.0, (folded_allows f b is, x.1));
  }
  list_more f fs first rest None is = record {
    literals = λ e all.
        let x = rest.literals ((fact_reading f).literal e).1 all in
        let y = first.literal is e x.0 in
        (y.0, (y.1, x.1));
    each = λ e all.
        let x = rest.each ((fact_reading f).stated e) all in
        let y = first.stated e x.0 in
        (y.0, (y.1 is, x.1));
  }

  mutual
    fact_needs : (f : Fact) → Needs (fact_reading f) (Allows P f)
    fact_needs (known b) = needs_literal (Allows P (known b)) (Some b) 0 (λ e. (pos 0, e)) (λ is. absurd (cc))
    fact_needs (truth_is v positive) = needs_literal (P (truth v)) None 0 (variable_literal v positive) (λ is e all. variable_has v positive e all)
    fact_needs (at_most form) = needs_literal (Allows P (at_most form)) (constant_form form) _ (atom_literal form) (λ is e all. let x = atom_has form e all in (x.0, λ k. x.1))
    fact_needs (above form) = needs_literal (Allows P (above form)) (option_map not (constant_form form)) _ (λ e. opposite (atom_literal form e))
        (λ is e all. let x = atom_has form e (opposite_has (atom_literal form e) all) in (x.0, λ k. x.1))
    fact_needs (all_of fs) =
        let needs = list_needs fs in
        record {
          literal = λ is e all. let x = needs.literals e (gated_has all_clauses (literals_of (kept (fact_readings fs)) e) all) in (x.0, λ k. x.1);
          stated = λ e all. needs_by (Allows P (all_of fs)) (value_of_all (fact_readings fs)) (state_each (kept (fact_readings fs))) e (λ is all'. let x = needs.each e all' in (x.0, λ k. x.1)) all;
        }
    fact_needs (any_of fs) =
        let needs = list_needs fs in
        record {
          literal = λ is e all. let x = needs.literals e (gated_has any_clauses (literals_of (kept (fact_readings fs)) e) all) in (x.0, λ k. x.1);
          stated = λ e all. needs_by (Allows P (any_of fs)) (value_of_any (fact_readings fs)) (state_any (kept (fact_readings fs))) e (λ is all'. let x = any_has (kept (fact_readings fs)) (AllowsAll P fs) needs e all' in (x.0, λ k. x.1)) all;
        }

    list_needs : (fs : Facts) → NeedsList (kept (fact_readings fs)) (AllowsAll P fs)
    list_needs none = record { literals = λ e all. (all, tt); each = λ e all. (all, tt) }
    list_needs (more f fs) = list_more f fs (fact_needs f) (list_needs fs) (folded_value f) refl

  allows_stated : (f : Fact) (D : Type 0) → Needs (fact_reading f) (Allows P f) → (o : Option Bool) → folded_value f ≡ o → (folded_value f ≡ None → Allows P f) → Allows P f
  allows_stated f D needs (Some b) is h = folded_allows f b is
  allows_stated f D needs None is h = h is

  each_allows : (facts : List Fact) (e : Encoding) → All P (state_each (map fact_reading facts) e).senses → All P e.senses × All (Allows P) facts
  each_allows [] e all = (all, All-nil (Allows P))
  each_allows (f ∷ fs) e all =
      let rest = each_allows fs ((fact_reading f).stated e) all in
      let first = (fact_needs f).stated e rest.0 in
      (first.0, All-cons (Allows P) f fs (allows_stated f (Allows P f) (fact_needs f) (folded_value f) refl first.1) rest.1)

  pub encoded_allows : (facts : List Fact) → All P (encoding_of facts).senses → All (Allows P) facts
  encoded_allows facts all = (each_allows facts nothing all).1

-- all senses are decided if the point decides all atoms, and the other way round
senses_decided : (den : ℕ) (nums : ℕ → ℤ) (senses : List Sense) → DecidesAtoms den nums senses → All (DecidedSense den nums) senses
senses_decided den nums [] h = All-nil (DecidedSense den nums)
senses_decided den nums (s ∷ ss) h = All-cons (DecidedSense den nums) s ss (first s refl) (senses_decided den nums ss rest)
  where
    first : (x : Sense) → s ≡ x → DecidedSense den nums x
    first (truth v) is = tt
    first (atom form) is = h 1 form (ap form_in is)
    first gate is = tt

    rest : DecidesAtoms den nums ss
    rest zero form e = absurd (cc)
    rest (suc v) form e = h (suc (suc v)) form e

atoms_of_senses : (den : ℕ) (nums : ℕ → ℤ) (senses : List Sense) → All (DecidedSense den nums) senses → DecidesAtoms den nums senses
atoms_of_senses den nums senses h zero form e = absurd (cc)
atoms_of_senses den nums [] h (suc v) form e = absurd (cc)
atoms_of_senses den nums (s ∷ ss) h (suc zero) form e = at s (All-head (DecidedSense den nums) s ss h) e
  where
    at : (x : Sense) → DecidedSense den nums x → form_in x ≡ Some form → IsDecided den nums form
    at (truth v) d e' = absurd (cc)
    at (atom f) d e' = let same : f ≡ form = cc in subst (IsDecided den nums) same d
    at gate d e' = absurd (cc)
atoms_of_senses den nums (s ∷ ss) h (suc (suc v)) form e = atoms_of_senses den nums ss (All-tail (DecidedSense den nums) s ss h) (suc v) form e

-- the open parts of a fact are decided
abbrev pub DecidedFact : ℕ → (ℕ → ℤ) → Fact → Type 0
DecidedFact den nums = Allows (DecidedSense den nums)

pub decided_facts : (den : ℕ) (nums : ℕ → ℤ) (facts : List Fact) → DecidesAtoms den nums (encoding_of facts).senses → All (DecidedFact den nums) facts
decided_facts den nums facts h = encoded_allows (DecidedSense den nums) (turned_decided den nums) (decided_turned den nums) facts (senses_decided den nums (encoding_of facts).senses h)

pub decided_atoms : (den : ℕ) (nums : ℕ → ℤ) (facts : List Fact) → ((f : Fact) → Contains facts f → DecidedFact den nums f) → DecidesAtoms den nums (encoding_of facts).senses
decided_atoms den nums facts h = atoms_of_senses den nums (encoding_of facts).senses (built_facts (DecidedSense den nums) tt facts h).senses
