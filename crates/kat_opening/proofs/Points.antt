-- If a point decides the encoding of facts, no lines refute the encoding of facts that each are the same as one of these.
use Rattle.std.proofs.Common.{◌≡◌, ℕ, ◌<◌, ◌⊎◌, ⊎_elim, inl, inr, ℤ, pos, int_le, ◌≤ℤ◌, ◌<ℤ◌, ◌+ℤ◌, unsigned_abs, Bool, true, false, not, if◌then◌else◌, Option, Some, None, List, [], ◌∷◌, All, get_or, slice_index_or, refl, sym, ap, ◌∙◌, subst, arith}
use Rattle.std.proofs.lemmas.Int.{ints}
use Rattle.std.proofs.lemmas.List.Elements.{All-contains}
use Rattle.kat_linear.specs.Rows.{Form, negated_form, scaled_value}
use Rattle.kat_linear.proofs.Contradictions.{negated_at}
use Rattle.kat_form.specs.Encodings.{Sense}
use Rattle.kat_form.specs.Encodings.Sense.{atom}
use Rattle.kat_form.specs.Facts.{Fact, Facts}
use Rattle.kat_form.specs.Facts.Fact.{all_of, any_of}
use Rattle.kat_form.specs.Readings.{constant_form, encoding_of, fact_readings, folded_value, leads_negative, value_of_all, value_of_any}
use Rattle.kat_form.specs.Meanings.{AreTrueFacts, IsDecided, all_true, any_true, folded, over_point, row_value, signed, value_of, values_of}
use Rattle.kat_form.proofs.Formulas.{facts_meant, met_le, unmet_le}
use Rattle.kat_refute.specs.Laws.{DecidesAtoms, ReadsAtomsAt}
use Rattle.kat_refute.specs.Lines.{AreARefutation, Line}
use Rattle.kat_refute.proofs.Facts.{points_stay_open}
use Rattle.kat_cases.specs.Points.{IsDecisive}
use Rattle.kat_cases.proofs.DecisivePoints.{points_meet_facts}
use Rattle.kat_opening.proofs.Forms.{World, SameForm}
use Rattle.kat_opening.proofs.Facts.{SameFact, SameFacts, all_alike, any_alike}
use Rattle.kat_opening.proofs.Facts.SameFact.{both_known, both_truth, both_at_most, both_above, both_all, both_any}
use Rattle.kat_opening.proofs.Facts.SameFacts.{both_none, both_more}
use Rattle.kat_opening.proofs.Lockstep.{Stands}
use Rattle.kat_opening.proofs.Standing.{AllStand}
use Rattle.kat_opening.proofs.Decided.{DecidedFact, DecidedSense, decided_atoms, decided_facts, turned_decided}
use Rattle.kat_form.proofs.Fit.{AllowsAll}

-- a fact that folds has the value to which it folds
folds_to : (model : Sense → Bool) (f : Fact) (b : Bool) → folded_value f ≡ Some b → value_of model f ≡ b
folds_to model f b is = (facts_meant model (f ∷ [])).0.folds b is

-- an open row's value, provided that it is decided
abbrev turned_row : (Sense → Bool) → Bool → Form → Bool
turned_row model b form = if b then not (model (atom (negated_form form))) else model (atom form)

turned_is : (truths : ℕ → Bool) (den : ℕ) (nums : ℕ → ℤ) (form : Form) (b : Bool) → 0 < den → IsDecided den nums form → turned_row (over_point truths den nums) b form ≡ int_le (scaled_value den nums form) (pos 0)
turned_is truths den nums form false so decided = refl
turned_is truths den nums form true so decided =
    let e : scaled_value den nums (negated_form form) +ℤ scaled_value den nums form ≡ pos den = negated_at form den nums in
    ⊎_elim
    (λ (low : scaled_value den nums form ≤ℤ pos 0). ap not (unmet_le (scaled_value den nums (negated_form form)) (λ k. omega (arith, ints))) ∙ sym (met_le (scaled_value den nums form) low))
    (λ (high : pos den ≤ℤ scaled_value den nums form). ap not (met_le (scaled_value den nums (negated_form form)) (omega (arith, ints))) ∙ sym (unmet_le (scaled_value den nums form) (λ k. omega (arith, ints))))
    decided

row_as : (model : Sense → Bool) (form : Form) (o : Option Bool) → constant_form form ≡ o → row_value model form ≡ folded o (turned_row model (leads_negative form.terms) form)
row_as model form o is = ap (λ c. folded c (turned_row model (leads_negative form.terms) form)) is

module _ (w : World) (den : ℕ) (so : 0 < den) (nums : ℕ → ℤ) (truths : ℕ → Bool) where
  -- the values of the first reader's variables
  abbrev own_nums : ℕ → ℤ
  own_nums i = nums (w.nums i)

  abbrev own_truths : ℕ → Bool
  own_truths i = truths (w.truths i)

  form_decided : (f g : Form) → SameForm w f g → IsDecided den nums g → IsDecided den own_nums f
  form_decided f g same decided = subst (λ x. (x ≤ℤ pos 0) ⊎ (pos den ≤ℤ x)) (sym (same.values den nums)) decided

  mutual
    fact_decided : (f g : Fact) → SameFact w f g → DecidedFact den nums g → DecidedFact den own_nums f
    fact_decided _ _ (both_known b) h = tt
    fact_decided _ _ (both_truth v k positive below is) h = tt
    fact_decided _ _ (both_at_most f g same) h = λ is. let d = form_decided f g same (h (sym same.constant ∙ is)).0 in (d, turned_decided den own_nums f d)
    fact_decided _ _ (both_above f g same) h = λ is. let d = form_decided f g same (h (sym same.constant ∙ is)).0 in (d, turned_decided den own_nums f d)
    fact_decided _ _ (both_all fs gs same) h = λ is. each_decided fs gs same (h (sym (all_alike w fs gs same) ∙ is))
    fact_decided _ _ (both_any fs gs same) h = λ is. each_decided fs gs same (h (sym (any_alike w fs gs same) ∙ is))

    each_decided : (fs gs : Facts) → SameFacts w fs gs → AllowsAll (DecidedSense den nums) gs → AllowsAll (DecidedSense den own_nums) fs
    each_decided _ _ both_none h = tt
    each_decided _ _ (both_more f g fs gs same rest) h = (fact_decided f g same h.0, each_decided fs gs rest h.1)

  row_alike : (f g : Form) → SameForm w f g → (constant_form g ≡ None → IsDecided den nums g) → row_value (over_point own_truths den own_nums) f ≡ row_value (over_point truths den nums) g
  row_alike f g same decided = by_constant (constant_form g) refl
    where
      by_constant : (o : Option Bool) → constant_form g ≡ o → row_value (over_point own_truths den own_nums) f ≡ row_value (over_point truths den nums) g
      by_constant (Some b) is = row_as (over_point own_truths den own_nums) f (Some b) (same.constant ∙ is) ∙ sym (row_as (over_point truths den nums) g (Some b) is)
      by_constant None is =
          row_as (over_point own_truths den own_nums) f None (same.constant ∙ is)
          ∙ turned_is own_truths den own_nums f (leads_negative f.terms) so (form_decided f g same (decided is))
          ∙ ap (λ x. int_le x (pos 0)) (same.values den nums)
          ∙ sym (turned_is truths den nums g (leads_negative g.terms) so (decided is))
          ∙ sym (row_as (over_point truths den nums) g None is)

  all_values : (fs gs : Facts) → SameFacts w fs gs → DecidedFact den nums (all_of gs) → (o : Option Bool) → value_of_all (fact_readings gs) ≡ o
      → (AllowsAll (DecidedSense den nums) gs → values_of (over_point own_truths den own_nums) fs ≡ values_of (over_point truths den nums) gs)
      → value_of (over_point own_truths den own_nums) (all_of fs) ≡ value_of (over_point truths den nums) (all_of gs)
  all_values fs gs same h (Some b) is rest = folds_to (over_point own_truths den own_nums) (all_of fs) b (all_alike w fs gs same ∙ is) ∙ sym (folds_to (over_point truths den nums) (all_of gs) b is)
  all_values fs gs same h None is rest = ap all_true (rest (h is))

  any_values : (fs gs : Facts) → SameFacts w fs gs → DecidedFact den nums (any_of gs) → (o : Option Bool) → value_of_any (fact_readings gs) ≡ o
      → (AllowsAll (DecidedSense den nums) gs → values_of (over_point own_truths den own_nums) fs ≡ values_of (over_point truths den nums) gs)
      → value_of (over_point own_truths den own_nums) (any_of fs) ≡ value_of (over_point truths den nums) (any_of gs)
  any_values fs gs same h (Some b) is rest = folds_to (over_point own_truths den own_nums) (any_of fs) b (any_alike w fs gs same ∙ is) ∙ sym (folds_to (over_point truths den nums) (any_of gs) b is)
  any_values fs gs same h None is rest = ap any_true (rest (h is))

  mutual
    value_alike : (f g : Fact) → SameFact w f g → DecidedFact den nums g → value_of (over_point own_truths den own_nums) f ≡ value_of (over_point truths den nums) g
    value_alike _ _ (both_known b) h = refl
    value_alike _ _ (both_truth v k positive below is) h = ap (λ i. signed positive (truths i)) is
    value_alike _ _ (both_at_most f g same) h = row_alike f g same (λ is. (h is).0)
    value_alike _ _ (both_above f g same) h = ap not (row_alike f g same (λ is. (h is).0))
    value_alike _ _ (both_all fs gs same) h = all_values fs gs same h (value_of_all (fact_readings gs)) refl (λ k. values_alike fs gs same k)
    value_alike _ _ (both_any fs gs same) h = any_values fs gs same h (value_of_any (fact_readings gs)) refl (λ k. values_alike fs gs same k)

    values_alike : (fs gs : Facts) → SameFacts w fs gs → AllowsAll (DecidedSense den nums) gs → values_of (over_point own_truths den own_nums) fs ≡ values_of (over_point truths den nums) gs
    values_alike _ _ both_none h = refl
    values_alike _ _ (both_more f g fs gs same rest) h =
        let first = value_alike f g same h.0 in
        let others = values_alike fs gs rest h.1 in
        cc

  -- a fact that is among facts that are decided and true
  stands_decided : (f : Fact) (gs : List Fact) → All (DecidedFact den nums) gs → Stands w f gs → DecidedFact den own_nums f
  stands_decided f gs decided stands = fact_decided f stands.fact stands.same (All-contains (DecidedFact den nums) gs stands.fact decided stands.there)

  stands_true : (f : Fact) (gs : List Fact) → All (DecidedFact den nums) gs → AreTrueFacts (over_point truths den nums) gs → Stands w f gs → value_of (over_point own_truths den own_nums) f ≡ true
  stands_true f gs decided hold stands =
      value_alike f stands.fact stands.same (All-contains (DecidedFact den nums) gs stands.fact decided stands.there)
      ∙ All-contains (λ g. value_of (over_point truths den nums) g ≡ true) gs stands.fact hold stands.there

  stays_open : (fs gs : List Fact) → All (λ f. Stands w f gs) fs → DecidesAtoms den nums (encoding_of gs).senses → AreTrueFacts (over_point truths den nums) gs → (lines : List Line) → AreARefutation (encoding_of fs) lines → ⊥
  stays_open fs gs stand decides hold lines shown =
      let decided = decided_facts den nums gs decides in
      points_stay_open fs own_truths den so own_nums
      (decided_atoms den own_nums fs (λ f has. stands_decided f gs decided (All-contains (λ f'. Stands w f' gs) fs f stand has)))
      (λ i d h. stands_true (get_or fs i d) gs decided hold (stand i d h))
      lines shown

-- a decisive point decides the atoms
decisive_atoms : (values : ℕ → Bool) (den : ℕ) (nums : ℕ → ℤ) (senses : List Sense) → ReadsAtomsAt values den nums senses → DecidesAtoms den nums senses
decisive_atoms values den nums senses reads v form at = by_value (values v) refl
  where
    by_value : (b : Bool) → values v ≡ b → IsDecided den nums form
    by_value true is = inl ((reads v form at).0 is)
    by_value false is =
        let whole : scaled_value den nums (negated_form form) +ℤ scaled_value den nums form ≡ pos den = negated_at form den nums in
        let low : scaled_value den nums (negated_form form) ≤ℤ pos 0 = (reads v form at).1 is in
        inr (omega (arith, ints, whole, low))

above_zero : (den : ℤ) → pos 0 <ℤ den → 0 < unsigned_abs den
above_zero den h = omega (arith, ints, h)

pub decisive_stays_open : (fs gs : List Fact) → AllStand fs gs → (numbers : ℕ) (den : ℤ) (nums : List ℤ) (truths : List Bool) → IsDecisive (encoding_of gs) numbers den nums truths → (lines : List Line) → AreARefutation (encoding_of fs) lines → ⊥
decisive_stays_open fs gs all numbers den nums truths point lines shown =
    let met = points_meet_facts gs numbers den nums truths point in
    let values : ℕ → ℤ = λ v. slice_index_or nums v (pos 0) in
    stays_open all.world (unsigned_abs den) (above_zero den point.positive) values met.0 fs gs all.stand
    (decisive_atoms point.values (unsigned_abs den) values (encoding_of gs).senses point.atoms) met.2 lines shown
