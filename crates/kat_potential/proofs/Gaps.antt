-- Rows that are told to be differences: they are, and values that meet the difference meet the row.
use Rattle.std.proofs.Common.{◌≡◌, ℕ, suc, ◌==◌, ◌^◌, ◌<◌, ◌≤◌, ℤ, pos, neg_ℤ, ◌-ℤ◌, ◌*ℤ◌, unsigned_abs, List, [], ◌∷◌, length, map, Option, Some, None, Bool, true, false, if◌then◌else◌, inl, inr, refl, sym, ap, ◌∙◌, subst, arith, All}
use Rattle.std.specs.Prelude.{IfSome, slice_index_or}
use Rattle.std.proofs.lemmas.Int.{ints}
use Rattle.std.proofs.lemmas.Bool.{ne_eqb}
use Rattle.std.proofs.lemmas.List.Elements.{All-nil, All-cons, All-head, All-tail}
use Rattle.kat_linear.specs.Rows.{Form, Term, IsMet, coefficient_in, term_sum, negated_form}
use Rattle.kat_linear.proofs.Integers.{mul_one, neg-mul}
use Rattle.kat_fm.specs.Answers.{HasVariablesBelow}
use Rattle.kat_potential.specs.Differences.{unit, values_over, IsDifference, IsMetApart}
use Rattle.kat_potential.specs.Parts.{AreTerms, IsRowOf, AreApart, IsOpposite}
use Rattle.kat_potential.specs.declared.differences.Difference.{Difference}
use Rattle.kat_potential.proofs.Fitting.{one_times}

-- ---- the terms' sum
minus_times : (a : ℤ) → neg_ℤ (pos 1) *ℤ a ≡ neg_ℤ a
minus_times a = neg-mul (pos 1) a ∙ ap neg_ℤ (one_times a)

terms_sum : (nums : ℕ → ℤ) (nought lower higher : ℕ) (terms : List Term) → nums nought ≡ pos 0 → AreTerms nought lower higher terms → term_sum nums terms ≡ nums lower -ℤ nums higher
terms_sum nums nought lower higher terms none (inl (e, f)) =
    let one = one_times (nums lower) in
    let gone : nums higher ≡ pos 0 = ap nums e ∙ none in
    ap (term_sum nums) f ∙ omega (arith, ints, one, gone)
terms_sum nums nought lower higher terms none (inr (inl (e, f))) =
    let one = minus_times (nums higher) in
    let gone : nums lower ≡ pos 0 = ap nums e ∙ none in
    ap (term_sum nums) f ∙ omega (arith, ints, one, gone)
terms_sum nums nought lower higher terms none (inr (inr (inl f))) =
    let one = one_times (nums lower) in let other = minus_times (nums higher) in
    ap (term_sum nums) f ∙ omega (arith, ints, one, other)
terms_sum nums nought lower higher terms none (inr (inr (inr f))) =
    let one = one_times (nums lower) in let other = minus_times (nums higher) in
    ap (term_sum nums) f ∙ omega (arith, ints, one, other)

pub difference_met : (nought : ℕ) (form : Form) (d : Difference) (values : List ℤ) → IsRowOf nought form d → AreApart values d → IsMet 1 (values_over values nought) form
difference_met nought form d values is apart =
    let none : values_over values nought nought ≡ pos 0 = omega (arith, ints) in
    let sum : term_sum (values_over values nought) form.terms ≡ (slice_index_or values d.lower (pos 0) -ℤ slice_index_or values nought (pos 0)) -ℤ (slice_index_or values d.higher (pos 0) -ℤ slice_index_or values nought (pos 0)) =
    terms_sum (values_over values nought) nought d.lower d.higher form.terms none is.terms in
    let constant : form.constant *ℤ pos 1 ≡ d.gap = mul_one form.constant ∙ is.constant in
    omega (arith, ints, sum, constant, apart)

-- ---- the coefficients
unit_past : (place v : ℕ) → v < place → unit place v ≡ pos 0
unit_past place v low = ap (λ (b : Bool). if b then pos 1 else pos 0) (ne_eqb place v (λ e. omega (arith, e, low)))

part_of_minus : (place v : ℕ) → (if place == v then neg_ℤ (pos 1) else pos 0) ≡ neg_ℤ (unit place v)
part_of_minus place v = at_test (place == v)
  where
    at_test : (b : Bool) → (if b then neg_ℤ (pos 1) else pos 0) ≡ neg_ℤ (if b then pos 1 else pos 0)
    at_test true = refl
    at_test false = refl

terms_coefficient : (nought lower higher : ℕ) (terms : List Term) (v : ℕ) → v < nought → AreTerms nought lower higher terms → coefficient_in terms v ≡ unit lower v -ℤ unit higher v
terms_coefficient nought lower higher terms v low (inl (e, f)) =
    let gone : unit higher v ≡ pos 0 = ap (λ (k : ℕ). unit k v) e ∙ unit_past nought v low in
    ap (λ (ts : List Term). coefficient_in ts v) f ∙ omega (arith, ints, gone)
terms_coefficient nought lower higher terms v low (inr (inl (e, f))) =
    let gone : unit lower v ≡ pos 0 = ap (λ (k : ℕ). unit k v) e ∙ unit_past nought v low in
    let part = part_of_minus higher v in
    ap (λ (ts : List Term). coefficient_in ts v) f ∙ omega (arith, ints, gone, part)
terms_coefficient nought lower higher terms v low (inr (inr (inl f))) =
    let part = part_of_minus higher v in
    ap (λ (ts : List Term). coefficient_in ts v) f ∙ omega (arith, ints, part)
terms_coefficient nought lower higher terms v low (inr (inr (inr f))) =
    let part = part_of_minus higher v in
    ap (λ (ts : List Term). coefficient_in ts v) f ∙ omega (arith, ints, part)

-- the variables of the terms are below the number that stands for none
terms_below : (nought lower higher : ℕ) (terms : List Term) → All (λ (t : Term). t.0 < nought) terms → AreTerms nought lower higher terms → (lower ≤ nought) × (higher ≤ nought)
terms_below nought lower higher terms below (inl (e, f)) =
    let P : List Term → Type 0 = All (λ (t : Term). t.0 < nought) in
    let a : lower < nought = All-head (λ (t : Term). t.0 < nought) (lower, pos 1) [] (subst P f below) in
    (omega (arith, a), omega (arith, e))
terms_below nought lower higher terms below (inr (inl (e, f))) =
    let P : List Term → Type 0 = All (λ (t : Term). t.0 < nought) in
    let a : higher < nought = All-head (λ (t : Term). t.0 < nought) (higher, neg_ℤ (pos 1)) [] (subst P f below) in
    (omega (arith, e), omega (arith, a))
terms_below nought lower higher terms below (inr (inr (inl f))) =
    let P : List Term → Type 0 = All (λ (t : Term). t.0 < nought) in
    let all = subst P f below in
    let a : lower < nought = All-head (λ (t : Term). t.0 < nought) (lower, pos 1) ((higher, neg_ℤ (pos 1)) ∷ []) all in
    let b : higher < nought = All-head (λ (t : Term). t.0 < nought) (higher, neg_ℤ (pos 1)) [] (All-tail (λ (t : Term). t.0 < nought) (lower, pos 1) ((higher, neg_ℤ (pos 1)) ∷ []) all) in
    (omega (arith, a), omega (arith, b))
terms_below nought lower higher terms below (inr (inr (inr f))) =
    let P : List Term → Type 0 = All (λ (t : Term). t.0 < nought) in
    let all = subst P f below in
    let a : higher < nought = All-head (λ (t : Term). t.0 < nought) (higher, neg_ℤ (pos 1)) ((lower, pos 1) ∷ []) all in
    let b : lower < nought = All-head (λ (t : Term). t.0 < nought) (lower, pos 1) [] (All-tail (λ (t : Term). t.0 < nought) (higher, neg_ℤ (pos 1)) ((lower, pos 1) ∷ []) all) in
    (omega (arith, b), omega (arith, a))

is_difference : (nought : ℕ) (form : Form) (lower higher : ℕ) → AreTerms nought lower higher form.terms → unsigned_abs form.constant ≤ 2 ^ 40 → HasVariablesBelow nought form → IsDifference nought form
is_difference nought form lower higher terms narrow below =
    let most = terms_below nought lower higher form.terms below terms in
    record {
      lower = lower;
      higher = higher;
      lower_most = most.0;
      higher_most = most.1;
      is = λ v low. terms_coefficient nought lower higher form.terms v low terms;
      narrow = narrow;
    }

pub row_is_difference : (nought : ℕ) (form : Form) (d : Difference) → IsRowOf nought form d → HasVariablesBelow nought form → IsDifference nought form
row_is_difference nought form d is below =
    let small = is.narrow in
    let same : unsigned_abs form.constant ≡ unsigned_abs d.gap = ap unsigned_abs is.constant in
    is_difference nought form d.lower d.higher is.terms (omega (arith, small, same)) below

-- ---- the negation
negated_terms : (nought lower higher : ℕ) (terms : List Term) → AreTerms nought lower higher terms → AreTerms nought higher lower (map (λ (t : Term). (t.0, neg_ℤ t.1)) terms)
negated_terms nought lower higher terms (inl (e, f)) = inr (inl (e, ap (map (λ (t : Term). (t.0, neg_ℤ t.1))) f))
negated_terms nought lower higher terms (inr (inl (e, f))) = inl (e, ap (map (λ (t : Term). (t.0, neg_ℤ t.1))) f)
negated_terms nought lower higher terms (inr (inr (inl f))) = inr (inr (inr (ap (map (λ (t : Term). (t.0, neg_ℤ t.1))) f)))
negated_terms nought lower higher terms (inr (inr (inr f))) = inr (inr (inl (ap (map (λ (t : Term). (t.0, neg_ℤ t.1))) f)))

opposite_terms : (nought : ℕ) (form : Form) (d other : Difference) → IsRowOf nought form d → IsOpposite d other → AreTerms nought other.lower other.higher (negated_form form).terms
opposite_terms nought form d other is turned =
    let P : ℕ → Type 0 = λ k. AreTerms nought k other.higher (negated_form form).terms in
    let Q : ℕ → Type 0 = λ k. AreTerms nought d.higher k (negated_form form).terms in
    subst P (sym turned.lower) (subst Q (sym turned.higher) (negated_terms nought d.lower d.higher form.terms is.terms))

pub opposite_met : (nought : ℕ) (form : Form) (d other : Difference) (values : List ℤ) → IsRowOf nought form d → IsOpposite d other → AreApart values other → IsMet 1 (values_over values nought) (negated_form form)
opposite_met nought form d other values is turned apart =
    let none : values_over values nought nought ≡ pos 0 = omega (arith, ints) in
    let sum : term_sum (values_over values nought) (negated_form form).terms ≡ (slice_index_or values other.lower (pos 0) -ℤ slice_index_or values nought (pos 0)) -ℤ (slice_index_or values other.higher (pos 0) -ℤ slice_index_or values nought (pos 0)) =
    terms_sum (values_over values nought) nought other.lower other.higher (negated_form form).terms none (opposite_terms nought form d other is turned) in
    let e = is.constant in let g = turned.gap in
    let constant : (pos 1 -ℤ form.constant) *ℤ pos 1 ≡ other.gap = mul_one (pos 1 -ℤ form.constant) ∙ omega (arith, ints, e, g) in
    omega (arith, ints, sum, constant, apart)

negated_below : (n : ℕ) (ts : List Term) → All (λ (t : Term). t.0 < n) ts → All (λ (t : Term). t.0 < n) (map (λ (t : Term). (t.0, neg_ℤ t.1)) ts)
negated_below n [] h = All-nil (λ (t : Term). t.0 < n)
negated_below n (t ∷ ts) h =
    All-cons (λ (u : Term). u.0 < n) (t.0, neg_ℤ t.1) (map (λ (u : Term). (u.0, neg_ℤ u.1)) ts) (h 0 t (omega arith)) (negated_below n ts (λ i d below. h (suc i) d (omega (arith, below))))

pub opposite_is_difference : (nought : ℕ) (form : Form) (d other : Difference) → IsRowOf nought form d → IsOpposite d other → HasVariablesBelow nought form → IsDifference nought (negated_form form)
opposite_is_difference nought form d other is turned below =
    let small = is.narrow in
    let same : unsigned_abs form.constant ≡ unsigned_abs d.gap = ap unsigned_abs is.constant in
    is_difference nought (negated_form form) other.lower other.higher (opposite_terms nought form d other is turned) (less form.constant (omega (arith, small, same))) (negated_below nought form.terms below)
  where
    less : (z : ℤ) → unsigned_abs z ≤ 2 ^ 39 → unsigned_abs (pos 1 -ℤ z) ≤ 2 ^ 40
    less z h = omega (arith, ints, h)

-- ---- what the tests tell
pub row_suits : (nought : ℕ) (form : Form) (d : Difference) (values : List ℤ) → IsRowOf nought form d → AreApart values d → HasVariablesBelow nought form → IsMetApart nought values form
row_suits nought form d values is apart below = (row_is_difference nought form d is below, difference_met nought form d values is apart)

pub negation_suits : (nought : ℕ) (form : Form) (d other : Difference) (values : List ℤ) → IsRowOf nought form d → IsOpposite d other → AreApart values other → HasVariablesBelow nought form
    → IsMetApart nought values (negated_form form)
negation_suits nought form d other values is turned apart below = (opposite_is_difference nought form d other is turned below, opposite_met nought form d other values is turned apart)

-- the terms of a row of two
pub two_terms : (ts : List Term) (d e : Term) (nought : ℕ) (r : Option (ℕ × ℕ)) → length ts ≡ 2 → IfSome r (λ (s : ℕ × ℕ). (n : ℕ) → AreTerms n s.0 s.1 (slice_index_or ts 0 d ∷ slice_index_or ts 1 e ∷ []))
    → IfSome r (λ (s : ℕ × ℕ). AreTerms nought s.0 s.1 ts)
two_terms ts d e nought None two h = tt
two_terms [] d e nought (Some s) two h = absurd (omega (arith, two))
two_terms (t ∷ []) d e nought (Some s) two h = absurd (omega (arith, two))
two_terms (t ∷ u ∷ []) d e nought (Some s) two h = h nought
two_terms (t ∷ u ∷ v ∷ ts) d e nought (Some s) two h = absurd (omega (arith, two))
