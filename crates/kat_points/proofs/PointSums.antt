-- The sum of a form at a point, number by number.
use Rattle.std.proofs.Common.{◌≡◌, ℕ, ◌+◌, ◌<◌, ℤ, pos, ◌+ℤ◌, ◌*ℤ◌, ◌<ℤ◌, unsigned_abs, Bool, true, false, ◌||◌, Option, Some, None, MatchOption, List, [], ◌∷◌, ◌++◌, drop, get_or, length, refl, sym, ap, ◌∙◌, arith}
use Rattle.std.proofs.lemmas.Int.{ints}
use Rattle.std.proofs.lemmas.List.{drop_more}
use Rattle.kat_linear.specs.Rows.{Form, Term, scaled_value, term_sum}
use Rattle.kat_points.specs.Points.{factors, goes_past, is_wide, number_at, term_factors}

or_rest : (a b : Bool) → a ≡ false → (a || b) ≡ b
or_rest false b e = refl
or_rest true b e = absurd (cc)

or_alone : (a : Bool) → (a || false) ≡ a
or_alone false = refl
or_alone true = refl

or_front : (a b : Bool) → (a || b) ≡ false → (a ≡ false) × (b ≡ false)
or_front false b e = (refl, e)
or_front true b e = absurd (cc)

or_true : (a b c : Bool) → (b ≡ true → c ≡ true) → (a || b) ≡ true → (a || c) ≡ true
or_true false b c f e = f e
or_true true b c f e = refl

-- one more term
pub sum_more : (nums : List ℤ) (terms : List Term) (i : ℕ) (d : Term) (total b next shown : ℤ) (past : Bool) (sum : ℤ) → i < length terms → shown ≡ next
    → b ≡ number_at nums (get_or terms i d).0
    → (is_wide ((get_or terms i d).1 *ℤ b) || is_wide (total +ℤ (get_or terms i d).1 *ℤ b)) ≡ false → next ≡ total +ℤ (get_or terms i d).1 *ℤ b
    → goes_past total (term_factors nums (drop i terms)) ≡ past → total +ℤ term_sum (number_at nums) (drop i terms) ≡ sum
    → (goes_past shown (term_factors nums (drop (i + 1) terms)) ≡ past) × (shown +ℤ term_sum (number_at nums) (drop (i + 1) terms) ≡ sum)
sum_more nums terms i d total b next shown past sum h same at narrow is goes sums =
    let t = get_or terms i d in
    let rest = drop (i + 1) terms in
    let split : drop i terms ≡ t ∷ rest = drop_more terms i d h in
    let p : t.1 *ℤ number_at nums t.0 ≡ t.1 *ℤ b = ap (λ n. t.1 *ℤ n) (sym at) in
    let there : total +ℤ t.1 *ℤ number_at nums t.0 ≡ shown = ap (λ q. total +ℤ q) p ∙ sym is ∙ sym same in
    let wide : (is_wide (t.1 *ℤ number_at nums t.0) || is_wide (total +ℤ t.1 *ℤ number_at nums t.0)) ≡ false = ap (λ q. is_wide q || is_wide (total +ℤ q)) p ∙ narrow in
    let first : goes_past total (term_factors nums (drop i terms)) ≡ goes_past total (term_factors nums (t ∷ rest)) = ap (λ ts. goes_past total (term_factors nums ts)) split in
    let second : goes_past total (term_factors nums (t ∷ rest)) ≡ goes_past (total +ℤ t.1 *ℤ number_at nums t.0) (term_factors nums rest) =
    or_rest (is_wide (t.1 *ℤ number_at nums t.0) || is_wide (total +ℤ t.1 *ℤ number_at nums t.0)) (goes_past (total +ℤ t.1 *ℤ number_at nums t.0) (term_factors nums rest)) wide in
    let whole : total +ℤ term_sum (number_at nums) (drop i terms) ≡ total +ℤ (t.1 *ℤ number_at nums t.0 +ℤ term_sum (number_at nums) rest) = ap (λ ts. total +ℤ term_sum (number_at nums) ts) split in (
      sym (ap (λ s. goes_past s (term_factors nums rest)) there) ∙ sym second ∙ sym first ∙ goes,
      moved total (t.1 *ℤ number_at nums t.0) (term_sum (number_at nums) rest) shown sum there (sym whole ∙ sums),
    )
  where
    moved : (a p s x y : ℤ) → a +ℤ p ≡ x → a +ℤ (p +ℤ s) ≡ y → x +ℤ s ≡ y
    moved a p s x y e f = omega (arith, ints, e, f)

-- the terms, and then the constant
in_turn : (a p s k : ℤ) → a +ℤ p +ℤ s +ℤ k ≡ a +ℤ (p +ℤ s) +ℤ k
in_turn a p s k = omega (arith, ints)

none_more : (a k : ℤ) → a +ℤ k ≡ a +ℤ pos 0 +ℤ k
none_more a k = omega (arith, ints)

row_past : (nums : List ℤ) (ts : List Term) (sum a b : ℤ) → goes_past sum (term_factors nums ts) ≡ false
    → goes_past sum (term_factors nums ts ++ (a, b) ∷ []) ≡ (is_wide (a *ℤ b) || is_wide (sum +ℤ term_sum (number_at nums) ts +ℤ a *ℤ b))
row_past nums [] sum a b h = or_alone (is_wide (a *ℤ b) || is_wide (sum +ℤ a *ℤ b)) ∙ ap (λ s. is_wide (a *ℤ b) || is_wide s) (none_more sum (a *ℤ b))
row_past nums (t ∷ ts) sum a b h =
    let p = t.1 *ℤ number_at nums t.0 in
    let parts = or_front (is_wide p || is_wide (sum +ℤ p)) (goes_past (sum +ℤ p) (term_factors nums ts)) h in
    or_rest (is_wide p || is_wide (sum +ℤ p)) (goes_past (sum +ℤ p) (term_factors nums ts ++ (a, b) ∷ [])) parts.0
    ∙ row_past nums ts (sum +ℤ p) a b parts.1
    ∙ ap (λ s. is_wide (a *ℤ b) || is_wide s) (in_turn sum p (term_sum (number_at nums) ts) (a *ℤ b))

row_past_true : (nums : List ℤ) (ts : List Term) (sum : ℤ) (more : List (ℤ × ℤ)) → goes_past sum (term_factors nums ts) ≡ true → goes_past sum (term_factors nums ts ++ more) ≡ true
row_past_true nums [] sum more h = absurd (cc)
row_past_true nums (t ∷ ts) sum more h =
    let p = t.1 *ℤ number_at nums t.0 in
    or_true (is_wide p || is_wide (sum +ℤ p)) (goes_past (sum +ℤ p) (term_factors nums ts)) (goes_past (sum +ℤ p) (term_factors nums ts ++ more)) (row_past_true nums ts (sum +ℤ p) more) h

pub row_none : (nums : List ℤ) (terms : List Term) (form : Form) (den : ℤ) → terms ≡ form.terms → goes_past (pos 0) (term_factors nums terms) ≡ true → goes_past (pos 0) (factors den nums form) ≡ true
row_none nums terms form den is h = row_past_true nums form.terms (pos 0) ((form.constant, den) ∷ []) (ap (λ ts. goes_past (pos 0) (term_factors nums ts)) (sym is) ∙ h)

as_natural : (den : ℤ) → pos 0 <ℤ den → pos (unsigned_abs den) ≡ den
as_natural den h = omega (arith, ints, h)

front_zero : (s k : ℤ) → pos 0 +ℤ s +ℤ k ≡ s +ℤ k
front_zero s k = omega (arith, ints)

pub row_some : (nums : List ℤ) (terms : List Term) (form : Form) (den sum : ℤ) (result : Option ℤ) → pos 0 <ℤ den → terms ≡ form.terms
    → goes_past (pos 0) (term_factors nums terms) ≡ false → sum ≡ term_sum (number_at nums) terms
    → MatchOption result ((is_wide (form.constant *ℤ den) || is_wide (sum +ℤ form.constant *ℤ den)) ≡ true) (λ total. ((is_wide (form.constant *ℤ den) || is_wide (sum +ℤ form.constant *ℤ den)) ≡ false) × (total ≡ sum +ℤ form.constant *ℤ den))
    → MatchOption result (goes_past (pos 0) (factors den nums form) ≡ true) (λ total. (goes_past (pos 0) (factors den nums form) ≡ false) × (total ≡ scaled_value (unsigned_abs den) (number_at nums) form))
row_some nums terms form den sum result positive is narrow sums = by_cases result
  where
    sum_is : sum ≡ term_sum (number_at nums) form.terms
    sum_is = sums ∙ ap (term_sum (number_at nums)) is

    whole : goes_past (pos 0) (factors den nums form) ≡ (is_wide (form.constant *ℤ den) || is_wide (sum +ℤ form.constant *ℤ den))
    whole =
        row_past nums form.terms (pos 0) form.constant den (ap (λ ts. goes_past (pos 0) (term_factors nums ts)) (sym is) ∙ narrow)
        ∙ ap (λ s. is_wide (form.constant *ℤ den) || is_wide s) (front_zero (term_sum (number_at nums) form.terms) (form.constant *ℤ den) ∙ ap (λ s. s +ℤ form.constant *ℤ den) (sym sum_is))

    by_cases : (r : Option ℤ) → MatchOption r ((is_wide (form.constant *ℤ den) || is_wide (sum +ℤ form.constant *ℤ den)) ≡ true) (λ total. ((is_wide (form.constant *ℤ den) || is_wide (sum +ℤ form.constant *ℤ den)) ≡ false) × (total ≡ sum +ℤ form.constant *ℤ den))
        → MatchOption r (goes_past (pos 0) (factors den nums form) ≡ true) (λ total. (goes_past (pos 0) (factors den nums form) ≡ false) × (total ≡ scaled_value (unsigned_abs den) (number_at nums) form))
    by_cases None h = whole ∙ h
    by_cases (Some total) h = (whole ∙ h.0, h.1 ∙ ap (λ s. s +ℤ form.constant *ℤ den) sum_is ∙ ap (λ k. term_sum (number_at nums) form.terms +ℤ form.constant *ℤ k) (sym (as_natural den positive)))
