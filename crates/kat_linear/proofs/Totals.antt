-- Sums over all variables below a bound: they change the order of "over rows, over terms" to "over variables".
use Rattle.std.proofs.Common.{◌≡◌, ◌≢◌, ℕ, zero, suc, ◌<◌, ◌≤◌, max, ◌==◌, ℤ, pos, ◌+ℤ◌, ◌*ℤ◌, List, [], ◌∷◌, if◌then◌else◌, refl, sym, ap, ◌∙◌, arith, ⊎_elim}
use Rattle.std.proofs.Math.IntN.{zero-*ℤ, *ℤ-zero}
use Rattle.std.proofs.lemmas.Int.{ints}
use Rattle.std.proofs.lemmas.Bool.{cond-true, cond-false, eq-eqb, ne_eqb, cases_eq}
use Rattle.kat_linear.specs.Rows.{Term, coefficient_in, term_sum}
use Rattle.kat_linear.proofs.Integers.{mul-add, add-mul}

-- the sum of a function over the numbers below n
abbrev pub upto : ℕ → (ℕ → ℤ) → ℤ
upto zero f = pos 0
upto (suc n) f = upto n f +ℤ f n

pub upto_same : (n : ℕ) (f g : ℕ → ℤ) → ((v : ℕ) → f v ≡ g v) → upto n f ≡ upto n g
upto_same zero f g h = refl
upto_same (suc n) f g h = rw (upto_same n f g h, h n) refl

pub upto_none : (n : ℕ) (f : ℕ → ℤ) → ((v : ℕ) → v < n → f v ≡ pos 0) → upto n f ≡ pos 0
upto_none zero f h = refl
upto_none (suc n) f h = rw (upto_none n f (λ v below. h v (omega arith)), h n (omega arith)) refl

pub upto-add : (n : ℕ) (f g : ℕ → ℤ) → upto n (λ v. f v +ℤ g v) ≡ upto n f +ℤ upto n g
upto-add zero f g = refl
upto-add (suc n) f g = rw (upto-add n f g) (omega (arith, ints))

pub upto-scale : (n : ℕ) (m : ℤ) (f : ℕ → ℤ) → upto n (λ v. m *ℤ f v) ≡ m *ℤ upto n f
upto-scale zero m f = sym (*ℤ-zero m)
upto-scale (suc n) m f = rw (upto-scale n m f, mul-add m (upto n f) (f n)) refl

-- one term's part of a coefficient
abbrev pub part_of : Term → ℕ → ℤ
part_of t v = if t.0 == v then t.1 else pos 0

pub part_at : (t : Term) (v : ℕ) → t.0 ≡ v → part_of t v ≡ t.1
part_at t v e = cond-true (t.0 == v) t.1 (pos 0) (eq-eqb t.0 v e)

pub part_apart : (t : Term) (v : ℕ) → t.0 ≢ v → part_of t v ≡ pos 0
part_apart t v e = cond-false (t.0 == v) t.1 (pos 0) (ne_eqb t.0 v e)

-- over the variables below n, a term counts once, at its own variable
pub upto_term : (n : ℕ) (t : Term) (values : ℕ → ℤ) → t.0 < n → upto n (λ v. part_of t v *ℤ values v) ≡ t.1 *ℤ values t.0
upto_term zero t values h = absurd (omega arith)
upto_term (suc n) t values h = ⊎_elim
    (λ (e : t.0 ≡ n).
    let none : upto n (λ v. part_of t v *ℤ values v) ≡ pos 0 =
    upto_none n (λ v. part_of t v *ℤ values v) (λ v below. ap (λ x. x *ℤ values v) (part_apart t v (λ same. omega arith)) ∙ zero-*ℤ (values v)) in
    rw (none, part_at t n e, sym e) (omega (arith, ints)))
    (λ (ne : t.0 ≢ n).
    let before : upto n (λ v. part_of t v *ℤ values v) ≡ t.1 *ℤ values t.0 = upto_term n t values (omega arith) in
    let here : part_of t n *ℤ values n ≡ pos 0 = ap (λ x. x *ℤ values n) (part_apart t n ne) ∙ zero-*ℤ (values n) in
    rw (before, here) (omega (arith, ints)))
    (cases_eq t.0 n)

-- a number above each variable of the terms
abbrev pub bound_of : List Term → ℕ
bound_of [] = 0
bound_of (t ∷ ts) = max (suc t.0) (bound_of ts)

-- the terms' sum is the sum over the variables of coefficient times value
pub term_sum_is : (n : ℕ) (ts : List Term) (values : ℕ → ℤ) → bound_of ts ≤ n → term_sum values ts ≡ upto n (λ v. coefficient_in ts v *ℤ values v)
term_sum_is n [] values h = sym (upto_none n (λ v. pos 0 *ℤ values v) (λ v below. zero-*ℤ (values v)))
term_sum_is n (t ∷ ts) values h =
    let parts : upto n (λ v. (part_of t v +ℤ coefficient_in ts v) *ℤ values v) ≡ upto n (λ v. part_of t v *ℤ values v) +ℤ upto n (λ v. coefficient_in ts v *ℤ values v) =
    upto_same n _ _ (λ v. add-mul (part_of t v) (coefficient_in ts v) (values v)) ∙ upto-add n (λ v. part_of t v *ℤ values v) (λ v. coefficient_in ts v *ℤ values v) in
    rw (parts, upto_term n t values (omega arith), term_sum_is n ts values (omega arith)) refl
