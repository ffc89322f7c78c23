-- Why a certificate refutes its rows.
use Rattle.std.proofs.Common.{◌≡◌, ℕ, ◌<◌, ◌≤◌, max, ℤ, pos, ◌+ℤ◌, ◌*ℤ◌, ◌≤ℤ◌, ◌<ℤ◌, List, [], ◌∷◌, All, map, neg_ℤ, ◌-ℤ◌, ◌⊎◌, inl, inr, refl, sym, ap, ◌∙◌, arith}
use Rattle.std.proofs.Math.IntN.{zero-*ℤ, *ℤ_comm}
use Rattle.std.proofs.lemmas.Int.{ints, by_lt_z}
use Rattle.std.proofs.lemmas.List.Elements.{All-head, All-tail, All-map}
use Rattle.kat_linear.specs.Rows.{Form, Term, coefficient_in, coefficient, term_sum, scaled_value, IsMet, AreAscending, IsAscending, negated_form}
use Rattle.kat_linear.specs.Sums.{combined, IsCertificate}
use Rattle.kat_linear.proofs.Integers.{mul-add, add-mul, mul_assoc, mul_at_most, mul_above, neg-mul, mul_one}
use Rattle.kat_linear.proofs.Totals.{upto, upto_same, upto_none, upto-add, upto-scale, bound_of, term_sum_is}

-- rows at most 0, times multipliers of at least 0, come to at most 0
combined_at_most : (number : Form → ℤ) (rows : List Form) (ms : List ℤ) → All (λ r. number r ≤ℤ pos 0) rows → All (λ m. pos 0 ≤ℤ m) ms → combined number rows ms ≤ℤ pos 0
combined_at_most number [] ms low signs = omega (arith, ints)
combined_at_most number (r ∷ rs) [] low signs = omega (arith, ints)
combined_at_most number (r ∷ rs) (m ∷ ms) low signs =
    let first : (m *ℤ number r) ≤ℤ pos 0 = mul_at_most m (number r) (All-head (λ m. pos 0 ≤ℤ m) m ms signs) (All-head (λ r. number r ≤ℤ pos 0) r rs low) in
    let rest : combined number rs ms ≤ℤ pos 0 = combined_at_most number rs ms (All-tail (λ r. number r ≤ℤ pos 0) r rs low) (All-tail (λ m. pos 0 ≤ℤ m) m ms signs) in
    omega (arith, ints)

-- the rows' sums are those of their terms and of their constants
combined-parts : (den : ℕ) (nums : ℕ → ℤ) (rows : List Form) (ms : List ℤ) → combined (scaled_value den nums) rows ms ≡ combined (λ r. term_sum nums r.terms) rows ms +ℤ combined (λ r. r.constant) rows ms *ℤ pos den
combined-parts den nums [] ms = omega (arith, ints)
combined-parts den nums (r ∷ rs) [] = omega (arith, ints)
combined-parts den nums (r ∷ rs) (m ∷ ms) =
    rw (mul-add m (term_sum nums r.terms) (r.constant *ℤ pos den), combined-parts den nums rs ms, add-mul (m *ℤ r.constant) (combined (λ r. r.constant) rs ms) (pos den), mul_assoc m r.constant (pos den)) (omega (arith, ints))

-- a number above each variable of the rows
abbrev bound_in : List Form → ℕ
bound_in [] = 0
bound_in (r ∷ rs) = max (bound_of r.terms) (bound_in rs)

-- the rows' terms come to the sum over the variables of the combined coefficient times the value
combined-variables : (n : ℕ) (nums : ℕ → ℤ) (rows : List Form) (ms : List ℤ) → bound_in rows ≤ n → combined (λ r. term_sum nums r.terms) rows ms ≡ upto n (λ v. combined (coefficient v) rows ms *ℤ nums v)
combined-variables n nums [] ms h = sym (upto_none n (λ v. pos 0 *ℤ nums v) (λ v below. zero-*ℤ (nums v)))
combined-variables n nums (r ∷ rs) [] h = sym (upto_none n (λ v. pos 0 *ℤ nums v) (λ v below. zero-*ℤ (nums v)))
combined-variables n nums (r ∷ rs) (m ∷ ms) h =
    let coefficients : ℕ → ℤ = λ v. coefficient_in r.terms v in
    let here : upto n (λ v. (m *ℤ coefficient_in r.terms v) *ℤ nums v) ≡ m *ℤ term_sum nums r.terms =
    upto_same n _ _ (λ v. mul_assoc m (coefficient_in r.terms v) (nums v)) ∙ upto-scale n m (λ v. coefficient_in r.terms v *ℤ nums v) ∙ ap (λ x. m *ℤ x) (sym (term_sum_is n r.terms nums (omega arith))) in
    let parts : upto n (λ v. ((m *ℤ coefficient_in r.terms v) +ℤ combined (coefficient v) rs ms) *ℤ nums v) ≡ upto n (λ v. (m *ℤ coefficient_in r.terms v) *ℤ nums v) +ℤ upto n (λ v. combined (coefficient v) rs ms *ℤ nums v) =
    upto_same n _ _ (λ v. add-mul (m *ℤ coefficient_in r.terms v) (combined (coefficient v) rs ms) (nums v)) ∙ upto-add n _ _ in
    rw (parts, here, combined-variables n nums rs ms (omega arith)) refl

-- No fractions meet all rows of a certificate.
pub refuted : (rows : List Form) (ms : List ℤ) → IsCertificate rows ms → (den : ℕ) → 0 < den → (nums : ℕ → ℤ) → All (IsMet den nums) rows → ⊥
refuted rows ms shown den above nums met =
    let n = bound_in rows in
    let low : combined (scaled_value den nums) rows ms ≤ℤ pos 0 = combined_at_most (scaled_value den nums) rows ms met shown.signs in
    let none : upto n (λ v. combined (coefficient v) rows ms *ℤ nums v) ≡ pos 0 =
    upto_none n (λ v. combined (coefficient v) rows ms *ℤ nums v) (λ v below. ap (λ x. x *ℤ nums v) (shown.cancels v) ∙ zero-*ℤ (nums v)) in
    let terms : combined (λ r. term_sum nums r.terms) rows ms ≡ pos 0 = combined-variables n nums rows ms (omega arith) ∙ none in
    let high : pos 0 <ℤ (combined (λ r. r.constant) rows ms *ℤ pos den) = mul_above (combined (λ r. r.constant) rows ms) den shown.above above in
    let whole : combined (scaled_value den nums) rows ms ≡ combined (λ r. term_sum nums r.terms) rows ms +ℤ combined (λ r. r.constant) rows ms *ℤ pos den = combined-parts den nums rows ms in
    let goes : combined (scaled_value den nums) rows ms ≡ pos 0 +ℤ combined (λ r. r.constant) rows ms *ℤ pos den = rw terms at whole in
    omega (arith, ints)

term_sum-negated : (values : ℕ → ℤ) (ts : List Term) → term_sum values (map (λ (t : Term). (t.0, neg_ℤ t.1)) ts) ≡ neg_ℤ (term_sum values ts)
term_sum-negated values [] = refl
term_sum-negated values (t ∷ ts) = rw (term_sum-negated values ts, neg-mul t.1 (values t.0)) (omega (arith, ints))

-- the negation's sum is that of 1 less the row's
pub negated_at : (row : Form) (den : ℕ) (values : ℕ → ℤ) → scaled_value den values (negated_form row) +ℤ scaled_value den values row ≡ pos den
negated_at row den values =
    let terms : term_sum values (negated_form row).terms ≡ neg_ℤ (term_sum values row.terms) = term_sum-negated values row.terms in
    let back : (pos 1 -ℤ row.constant) +ℤ row.constant ≡ pos 1 = omega (arith, ints) in
    let one : pos 1 *ℤ pos den ≡ pos den = *ℤ_comm (pos 1) (pos den) ∙ mul_one (pos den) in
    let constants : ((pos 1 -ℤ row.constant) *ℤ pos den) +ℤ (row.constant *ℤ pos den) ≡ pos den = sym (add-mul (pos 1 -ℤ row.constant) row.constant (pos den)) ∙ ap (λ x. x *ℤ pos den) back ∙ one in
    omega (arith, ints, terms, constants)

negated_value : (row : Form) (values : ℕ → ℤ) → scaled_value 1 values (negated_form row) +ℤ scaled_value 1 values row ≡ pos 1
negated_value row values = negated_at row 1 values

pub negation_met : (row : Form) (values : ℕ → ℤ) → IsMet 1 values row ⊎ IsMet 1 values (negated_form row)
negation_met row values =
    let e : scaled_value 1 values (negated_form row) +ℤ scaled_value 1 values row ≡ pos 1 = negated_value row values in
    let P : Type 0 = IsMet 1 values row ⊎ IsMet 1 values (negated_form row) in
    by_lt_z {P = P} (pos 0) (scaled_value 1 values row) (λ above. inr (omega (arith, ints))) inl

pub not_both_met : (row : Form) (values : ℕ → ℤ) → IsMet 1 values row → IsMet 1 values (negated_form row) → ⊥
not_both_met row values h k =
    let e : scaled_value 1 values (negated_form row) +ℤ scaled_value 1 values row ≡ pos 1 = negated_value row values in
    omega (arith, ints)

-- negation keeps the order of the terms
AreAscending-negated : (ts : List Term) → AreAscending ts → AreAscending (map (λ (t : Term). (t.0, neg_ℤ t.1)) ts)
AreAscending-negated [] h = h
AreAscending-negated (t ∷ ts) h = (All-map (λ (u : Term). t.0 < u.0) (λ (u : Term). (u.0, neg_ℤ u.1)) ts h.0, AreAscending-negated ts h.1)

pub ascending_negated : (form : Form) → IsAscending form → IsAscending (negated_form form)
ascending_negated form h = AreAscending-negated form.terms h
