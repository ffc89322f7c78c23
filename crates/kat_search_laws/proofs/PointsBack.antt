-- A point that makes the facts true is decisive.
use Rattle.std.proofs.Common.{◌≡◌, ◌≢◌, ℕ, zero, suc, ◌+◌, ◌-◌, ◌≤◌, ℤ, pos, int_le, ◌≤ℤ◌, ◌<ℤ◌, ◌+ℤ◌, unsigned_abs, ⊎_elim, Bool, true, false, Some, List, [], ◌∷◌, All, drop, length, get_or, refl, sym, ap, ◌∙◌, subst, arith}
use Rattle.std.proofs.lemmas.Bool.{false≢true}
use Rattle.std.proofs.lemmas.Int.{ints}
use Rattle.std.proofs.lemmas.List.{drop_all, drop_more}
use Rattle.std.proofs.lemmas.List.Elements.{All-head, All-tail}
use Rattle.kat_linear.specs.Rows.{Form, negated_form, scaled_value}
use Rattle.kat_linear.proofs.Contradictions.{negated_at}
use Rattle.kat_clause.specs.Valuations.{literal_value}
use Rattle.kat_form.specs.Encodings.{Sense, atom_at, sense_at}
use Rattle.kat_form.specs.Encodings.Sense.{truth, atom, gate}
use Rattle.kat_form.specs.Readings.{encoding_of}
use Rattle.kat_form.proofs.FitFacts.{valuations_decide}
use Rattle.kat_form.proofs.Formulas.{met_le, truth_extends}
use Rattle.kat_cases.specs.Nodes.{truths_from}
use Rattle.kat_points.specs.Points.{IsSettledAt, PointForm, end_place, model_at, next_place, number_at, value_at, value_in, values_from}
use Rattle.kat_search_laws.specs.Points.{PointsThatDecideAreDecisive}
use Rattle.kat_search_laws.proofs.PointsForth.{Agrees, ReadsHere}

-- the truth values from a place on are those of the valuation
end_least : (place : ℕ) (ss : List Sense) → place ≤ end_place place ss
end_least place [] = omega arith
end_least place (truth t ∷ ss) = let rest = end_least (place + 1) ss in omega (arith, rest)
end_least place (atom form ∷ ss) = end_least place ss
end_least place (gate ∷ ss) = end_least place ss

told_from : (values : ℕ → Bool) (p : PointForm) (v : ℕ) (ss : List Sense) (place : ℕ) → length p.truths ≡ end_place place ss
    → ((i : ℕ) (s : Sense) → sense_at ss (suc i) ≡ Some s → s ≢ gate → values (v + i) ≡ get_or (values_from p place ss) i false)
    → drop place p.truths ≡ truths_from (literal_value values) v ss
told_from values p v [] place size agree = drop_all place p.truths (omega (arith, size))
told_from values p v (truth t ∷ ss) place size agree =
    let least = end_least (place + 1) ss in
    let here : v + 0 ≡ v = omega arith in
    let first : values v ≡ get_or p.truths place false = sym (ap values here) ∙ agree 0 (truth t) refl (λ e. absurd (cc)) in
    let rest : drop (place + 1) p.truths ≡ truths_from (literal_value values) (suc v) ss =
    told_from values p (suc v) ss (place + 1) size (λ i s at plain. let on : suc v + i ≡ v + suc i = omega arith in ap values on ∙ agree (suc i) s at plain) in
    drop_more p.truths place false (omega (arith, size, least)) ∙ ap (λ b. b ∷ drop (place + 1) p.truths) (sym first) ∙ ap (λ bs. values v ∷ bs) rest
told_from values p v (atom form ∷ ss) place size agree =
    told_from values p (suc v) ss place size (λ i s at plain. let on : suc v + i ≡ v + suc i = omega arith in ap values on ∙ agree (suc i) s at plain)
told_from values p v (gate ∷ ss) place size agree =
    told_from values p (suc v) ss place size (λ i s at plain. let on : suc v + i ≡ v + suc i = omega arith in ap values on ∙ agree (suc i) s at plain)

-- an atom's value at the point, and its form
atom_value : (p : PointForm) (place : ℕ) (ss : List Sense) (i : ℕ) (form : Form) → atom_at ss (suc i) ≡ Some form → get_or (values_from p place ss) i false ≡ int_le (value_in p (atom form)) (pos 0)
atom_value p place [] i form e = absurd (cc)
atom_value p place (truth t ∷ ss) zero form e = absurd (cc)
atom_value p place (atom f ∷ ss) zero form e = let is : f ≡ form = cc in ap (λ g. int_le (value_in p (atom g)) (pos 0)) is
atom_value p place (gate ∷ ss) zero form e = absurd (cc)
atom_value p place (s ∷ ss) (suc i) form e = atom_value p (next_place place s) ss i form e

atom_sense : (ss : List Sense) (i : ℕ) (form : Form) → atom_at ss (suc i) ≡ Some form → sense_at ss (suc i) ≡ Some (atom form)
atom_sense [] i form e = absurd (cc)
atom_sense (truth t ∷ ss) zero form e = absurd (cc)
atom_sense (atom f ∷ ss) zero form e = let is : f ≡ form = cc in ap (λ g. Some (atom g)) is
atom_sense (gate ∷ ss) zero form e = absurd (cc)
atom_sense (s ∷ ss) (suc i) form e = atom_sense ss i form e

atom_settled : (p : PointForm) (ss : List Sense) → All (λ s. IsSettledAt p.den (value_in p s)) ss → (i : ℕ) (form : Form) → atom_at ss (suc i) ≡ Some form → IsSettledAt p.den (value_in p (atom form))
atom_settled p [] all i form e = absurd (cc)
atom_settled p (truth t ∷ ss) all zero form e = absurd (cc)
atom_settled p (atom f ∷ ss) all zero form e =
    let is : f ≡ form = cc in let P : Form → Type 0 = λ g. IsSettledAt p.den (value_in p (atom g)) in subst P is (All-head (λ s. IsSettledAt p.den (value_in p s)) (atom f) ss all)
atom_settled p (gate ∷ ss) all zero form e = absurd (cc)
atom_settled p (s ∷ ss) all (suc i) form e = atom_settled p ss (All-tail (λ t. IsSettledAt p.den (value_in p t)) s ss all) i form e

-- so it is read at the point
le_met : (x : ℤ) → int_le x (pos 0) ≡ true → x ≤ℤ pos 0
le_met x h = grind (arith, ints)

turned_back : (den n s : ℤ) → pos 0 <ℤ den → n +ℤ s ≡ pos (unsigned_abs den) → den ≤ℤ s → n ≤ℤ pos 0
turned_back den n s large whole high = omega (arith, ints, large, whole, high)

reads_here : (p : PointForm) (form : Form) (value : Bool) → pos 0 <ℤ p.den → IsSettledAt p.den (value_in p (atom form)) → value ≡ int_le (value_in p (atom form)) (pos 0) → ReadsHere value p form
reads_here p form value large settled is = (
  λ yes'. le_met (value_in p (atom form)) (sym is ∙ yes'),
  λ unmet. ⊎_elim
      (λ (low : value_in p (atom form) ≤ℤ pos 0). absurd (false≢true (sym unmet ∙ is ∙ met_le (value_in p (atom form)) low)))
      (λ (high : p.den ≤ℤ value_in p (atom form)). turned_back p.den (scaled_value (unsigned_abs p.den) (number_at p.nums) (negated_form form)) (value_in p (atom form)) large (negated_at form (unsigned_abs p.den) (number_at p.nums)) high)
      settled,
)

agree_from : (values : ℕ → Bool) (p : PointForm) (senses : List Sense) → Agrees values p senses → (i : ℕ) (s : Sense) → sense_at senses (suc i) ≡ Some s → s ≢ gate → values (1 + i) ≡ get_or (values_from p 0 senses) i false
agree_from values p senses agrees i s at plain =
    let on : 1 + i ≡ suc i = omega arith in
    let back : suc i - 1 ≡ i = omega arith in
    ap values on ∙ agrees (suc i) s at plain ∙ ap (λ k. get_or (values_from p 0 senses) k false) back

atoms_read : (values : ℕ → Bool) (p : PointForm) (senses : List Sense) → pos 0 <ℤ p.den → All (λ s. IsSettledAt p.den (value_in p s)) senses → Agrees values p senses → (v : ℕ) (form : Form) → atom_at senses v ≡ Some form → ReadsHere (values v) p form
atoms_read values p senses large all agrees zero form e = absurd (cc)
atoms_read values p senses large all agrees (suc i) form e =
    let back : suc i - 1 ≡ i = omega arith in
    reads_here p form (values (suc i)) large (atom_settled p senses all i form e)
    (agrees (suc i) (atom form) (atom_sense senses i form e) (λ g. absurd (cc)) ∙ ap (λ k. get_or (values_from p 0 senses) k false) back ∙ atom_value p 0 senses i form e)

pub decisive : PointsThatDecideAreDecisive
decisive facts numbers p point =
    let senses = (encoding_of facts).senses in
    let extended = truth_extends (model_at p senses) facts point.decides.facts_hold in
    let values = extended.0 in
    let agrees : Agrees extended.0 p (encoding_of facts).senses =
    λ v s at plain. extended.1.0 v s at plain ∙ sym ((valuations_decide facts (value_at (values_from p 0 (encoding_of facts).senses))).0 v s at plain) in
    record {
      positive = point.shape.positive;
      count = point.shape.count;
      den_narrow = point.narrow.den;
      nums_narrow = point.narrow.nums;
      values = values;
      told = told_from values p 1 senses 0 point.shape.told (agree_from values p senses agrees);
      atoms = atoms_read values p senses point.shape.positive point.decides.atoms agrees;
      clauses = extended.1.1;
    }
