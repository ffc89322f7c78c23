-- A decisive point makes the facts true.
use Rattle.std.proofs.Common.{◌≡◌, ◌≢◌, ℕ, zero, suc, ◌+◌, ◌-◌, ℤ, pos, int_le, ◌≤ℤ◌, ◌<ℤ◌, ◌+ℤ◌, unsigned_abs, inl, inr, Bool, true, false, Some, List, [], ◌∷◌, ◌++◌, All, length, get_or, append_assoc, refl, sym, ap, ◌∙◌, subst, arith}
use Rattle.std.proofs.lemmas.Int.{ints}
use Rattle.std.proofs.lemmas.List.{length_push}
use Rattle.std.proofs.lemmas.List.Elements.{All-cons, All-nil}
use Rattle.kat_linear.specs.Rows.{Form, IsMet, negated_form, scaled_value}
use Rattle.kat_linear.proofs.Contradictions.{negated_at}
use Rattle.kat_clause.specs.Valuations.{literal_value}
use Rattle.kat_form.specs.Encodings.{Sense, atom_at, form_in, sense_at}
use Rattle.kat_form.specs.Encodings.Sense.{truth, atom, gate}
use Rattle.kat_form.specs.Facts.{Fact}
use Rattle.kat_form.specs.Meanings.{Reads}
use Rattle.kat_form.specs.Readings.{encoding_of}
use Rattle.kat_form.proofs.FitFacts.{valuations_decide}
use Rattle.kat_form.proofs.Formulas.{clauses_decide, met_le, unmet_le}
use Rattle.kat_cases.specs.Nodes.{truths_from}
use Rattle.kat_points.specs.Points.{IsSettledAt, PointForm, end_place, model_at, number_at, value_at, value_in, values_from}
use Rattle.kat_search_laws.specs.Points.{DecisivePointsDecide}

-- the variable that stands for an atom has its form
pub atom_found : (senses : List Sense) (v : ℕ) (form : Form) → sense_at senses v ≡ Some (atom form) → atom_at senses v ≡ Some form
atom_found senses zero form e = absurd (cc)
atom_found [] (suc v) form e = absurd (cc)
atom_found (s ∷ ss) (suc zero) form e = let is : s ≡ atom form = cc in ap form_in is
atom_found (s ∷ ss) (suc (suc v)) form e = atom_found ss (suc v) form e

-- how an atom's variable is read at the point
abbrev pub ReadsHere : Bool → PointForm → Form → Type 0
ReadsHere value p form = (value ≡ true → IsMet (unsigned_abs p.den) (number_at p.nums) form) × (value ≡ false → IsMet (unsigned_abs p.den) (number_at p.nums) (negated_form form))

turned : (den : ℤ) (n s : ℤ) → pos 0 <ℤ den → n +ℤ s ≡ pos (unsigned_abs den) → n ≤ℤ pos 0 → den ≤ℤ s
turned den n s large whole low = omega (arith, ints, large, whole, low)

unmet_here : (den : ℤ) (n s : ℤ) → pos 0 <ℤ den → n +ℤ s ≡ pos (unsigned_abs den) → n ≤ℤ pos 0 → s ≤ℤ pos 0 → ⊥
unmet_here den n s large whole low met = omega (arith, ints, large, whole, low, met)

value_here : (p : PointForm) (form : Form) (value : Bool) → pos 0 <ℤ p.den → ReadsHere value p form → value ≡ int_le (value_in p (atom form)) (pos 0)
value_here p form value large reads = by_value value refl
  where
    by_value : (b : Bool) → value ≡ b → value ≡ int_le (value_in p (atom form)) (pos 0)
    by_value true is = is ∙ sym (met_le (value_in p (atom form)) (reads.0 is))
    by_value false is =
        is ∙ sym (unmet_le (value_in p (atom form)) (unmet_here p.den (scaled_value (unsigned_abs p.den) (number_at p.nums) (negated_form form)) (value_in p (atom form)) large (negated_at form (unsigned_abs p.den) (number_at p.nums)) (reads.1 is)))

settled_here : (p : PointForm) (form : Form) (value : Bool) → pos 0 <ℤ p.den → ReadsHere value p form → IsSettledAt p.den (value_in p (atom form))
settled_here p form true large reads = inl (reads.0 refl)
settled_here p form false large reads = inr (turned p.den (scaled_value (unsigned_abs p.den) (number_at p.nums) (negated_form form)) (value_in p (atom form)) large (negated_at form (unsigned_abs p.den) (number_at p.nums)) (reads.1 refl))

-- all atoms are settled
settled_from : (p : PointForm) (values : ℕ → Bool) (v : ℕ) (ss : List Sense) → pos 0 <ℤ p.den → ((i : ℕ) (form : Form) → atom_at ss (suc i) ≡ Some form → ReadsHere (values (v + i)) p form)
    → All (λ s. IsSettledAt p.den (value_in p s)) ss
settled_from p values v [] large reads = All-nil (λ s. IsSettledAt p.den (value_in p s))
settled_from p values v (s ∷ ss) large reads =
    All-cons (λ t. IsSettledAt p.den (value_in p t)) s ss (first s refl)
    (settled_from p values (suc v) ss large (λ i form e. let there : v + suc i ≡ suc v + i = omega arith in let P : ℕ → Type 0 = λ k. ReadsHere (values k) p form in subst P there (reads (suc i) form e)))
  where
    first : (t : Sense) → s ≡ t → IsSettledAt p.den (value_in p t)
    first (truth u) e = inl (omega (arith, ints))
    first (atom form) e = settled_here p form (values (v + 0)) large (reads 0 form (ap form_in e))
    first gate e = inl (omega (arith, ints))

-- as many truth values
told_count : (has : ℤ → Bool) (v place : ℕ) (ss : List Sense) → place + length (truths_from has v ss) ≡ end_place place ss
told_count has v place [] = omega arith
told_count has v place (truth t ∷ ss) = let rest = told_count has (suc v) (place + 1) ss in let on : place + suc (length (truths_from has (suc v) ss)) ≡ (place + 1) + length (truths_from has (suc v) ss) = omega arith in on ∙ rest
told_count has v place (atom form ∷ ss) = told_count has (suc v) place ss
told_count has v place (gate ∷ ss) = told_count has (suc v) place ss

at_front : (front rest : List Bool) (x : Bool) (n : ℕ) → length front ≡ n → get_or (front ++ x ∷ rest) n false ≡ x
at_front [] rest x zero e = refl
at_front [] rest x (suc n) e = absurd (omega (arith, e))
at_front (y ∷ ys) rest x zero e = absurd (omega (arith, e))
at_front (y ∷ ys) rest x (suc n) e = at_front ys rest x n (omega (arith, e))

-- the values at the point are those of the valuation
agree : (values : ℕ → Bool) (p : PointForm) (v : ℕ) (ss : List Sense) (place : ℕ) (front : List Bool)
    → p.truths ≡ front ++ truths_from (literal_value values) v ss → length front ≡ place
    → ((i : ℕ) (form : Form) → atom_at ss (suc i) ≡ Some form → values (v + i) ≡ int_le (value_in p (atom form)) (pos 0))
    → (i : ℕ) (s : Sense) → sense_at ss (suc i) ≡ Some s → s ≢ gate → values (v + i) ≡ get_or (values_from p place ss) i false
agree values p v [] place front told size atoms i s at plain = absurd (cc)
agree values p v (truth t ∷ ss) place front told size atoms zero s at plain =
    let here : v + 0 ≡ v = omega arith in
    ap values here ∙ sym (ap (λ ts. get_or ts place false) told ∙ at_front front (truths_from (literal_value values) (suc v) ss) (values v) place size)
agree values p v (atom form ∷ ss) place front told size atoms zero s at plain = atoms 0 form refl
agree values p v (gate ∷ ss) place front told size atoms zero s at plain = let is : gate ≡ s = cc in absurd (plain (sym is))
agree values p v (truth t ∷ ss) place front told size atoms (suc i) s at plain =
    let there : v + suc i ≡ suc v + i = omega arith in
    let longer : length (front ++ values v ∷ []) ≡ place + 1 = length_push front (values v) ∙ ap (λ n. n + 1) size in
    ap values there ∙ agree values p (suc v) ss (place + 1) (front ++ values v ∷ []) (told ∙ sym (append_assoc front (values v ∷ []) (truths_from (literal_value values) (suc v) ss))) longer
    (λ j form e. let on : suc v + j ≡ v + suc j = omega arith in ap values on ∙ atoms (suc j) form e) i s at plain
agree values p v (atom f ∷ ss) place front told size atoms (suc i) s at plain =
    let there : v + suc i ≡ suc v + i = omega arith in
    ap values there ∙ agree values p (suc v) ss place front told size (λ j form e. let on : suc v + j ≡ v + suc j = omega arith in ap values on ∙ atoms (suc j) form e) i s at plain
agree values p v (gate ∷ ss) place front told size atoms (suc i) s at plain =
    let there : v + suc i ≡ suc v + i = omega arith in
    ap values there ∙ agree values p (suc v) ss place front told size (λ j form e. let on : suc v + j ≡ v + suc j = omega arith in ap values on ∙ atoms (suc j) form e) i s at plain

-- a valuation of the variables and the values at a point agree
abbrev pub Agrees : (ℕ → Bool) → PointForm → List Sense → Type 0
Agrees values p senses = (v : ℕ) (s : Sense) → sense_at senses v ≡ Some s → s ≢ gate → values v ≡ value_at (values_from p 0 senses) v

reads_model : (facts : List Fact) (values : ℕ → Bool) (p : PointForm) → Agrees values p (encoding_of facts).senses → Reads values (model_at p (encoding_of facts).senses) (encoding_of facts).senses
reads_model facts values p agrees v s at plain =
    agrees v s at plain ∙ (valuations_decide facts (value_at (values_from p 0 (encoding_of facts).senses))).0 v s at plain

agrees_from : (values : ℕ → Bool) (p : PointForm) (senses : List Sense) → ((i : ℕ) (s : Sense) → sense_at senses (suc i) ≡ Some s → s ≢ gate → values (1 + i) ≡ get_or (values_from p 0 senses) i false) → Agrees values p senses
agrees_from values p senses h zero s at plain = absurd (cc)
agrees_from values p senses h (suc i) s at plain =
    let on : suc i ≡ 1 + i = omega arith in
    let back : i ≡ suc i - 1 = omega arith in
    ap values on ∙ h i s at plain ∙ ap (λ k. get_or (values_from p 0 senses) k false) back

pub decides : DecisivePointsDecide
decides facts numbers p point =
    let senses = (encoding_of facts).senses in
    let values = point.values in
    let reads : (i : ℕ) (form : Form) → atom_at (encoding_of facts).senses (suc i) ≡ Some form → ReadsHere (point.values (1 + i)) p form =
    λ i form e. let on : suc i ≡ 1 + i = omega arith in let P : ℕ → Type 0 = λ k. ReadsHere (point.values k) p form in subst P on (point.atoms (suc i) form e) in
    let none : 0 + length (truths_from (literal_value values) 1 senses) ≡ length (truths_from (literal_value values) 1 senses) = omega arith in
    let agrees = agrees_from values p senses (agree values p 1 senses 0 [] point.told refl (λ i form e. value_here p form (values (1 + i)) point.positive (reads i form e))) in
    record {
      shape = record {
        positive = point.positive;
        count = point.count;
        told = ap length point.told ∙ sym none ∙ told_count (literal_value values) 1 0 senses;
      };
      narrow = record { den = point.den_narrow; nums = point.nums_narrow };
      decides = record {
        atoms = settled_from p values 1 senses point.positive reads;
        facts_hold = clauses_decide (model_at p senses) facts values (reads_model facts values p agrees) point.clauses;
      };
    }
