-- The weight of a linear form: the sum of the absolute values of its numbers. It adds up under sums and differences.
use Rattle.std.proofs.Common.{◌≡◌, ℕ, zero, suc, ◌+◌, ◌<◌, ◌≤◌, ℤ, pos, negsuc, ◌+ℤ◌, neg_ℤ, Bool, true, false, nat_lt, nat_eq, List, [], ◌∷◌, All, refl, sym, subst, arith}
use Rattle.std.specs.Prelude.{unsigned_abs, if◌then◌else◌}
use Rattle.std.specs.Ordering.{int_eq}
use Rattle.std.proofs.lemmas.Int.{ints}
use Rattle.std.proofs.lemmas.Bool.Decides.{Decides-eqb}
use Rattle.std.proofs.lemmas.Bool.{ltb-true, ltb-false, eqb-false}
use Rattle.std.proofs.lemmas.List.Elements.{All-nil, All-cons, All-head, All-tail, All-weaker, All-map}
use Rattle.kat_linear.specs.Rows.{Form, Term, AreAscending, IsAscending}
use Rattle.kat_symbols.specs.Sums.{numeral, variable, with_coefficient, add_term, add_terms, plus, opposite_terms, opposite_form, minus, raised}

abbrev pub terms_weight : List Term → ℕ
terms_weight [] = 0
terms_weight (t ∷ ts) = unsigned_abs t.1 + terms_weight ts

abbrev pub form_weight : Form → ℕ
form_weight form = terms_weight form.terms + unsigned_abs form.constant

-- a reader may have this many slots
module _ (slots_most : ℕ) where
  abbrev pub AreNumbered : List Term → Type 0
  AreNumbered [] = Unit {0}
  AreNumbered (t ∷ ts) = (t.0 < slots_most) × AreNumbered ts

  -- a form of at most this weight whose terms ascend, over variables that such a reader has
  pub record IsUpTo (n : ℕ) (form : Form) : Type 0 where
    pub weight : form_weight form ≤ n
    pub ascending : IsAscending form
    pub numbered : AreNumbered form.terms

  -- absolute values
  abs_opposite : (z : ℤ) → unsigned_abs (neg_ℤ z) ≡ unsigned_abs z
  abs_opposite (pos zero) = refl
  abs_opposite (pos (suc n)) = refl
  abs_opposite (negsuc n) = refl

  abs_sum : (x y : ℤ) → unsigned_abs (x +ℤ y) ≤ unsigned_abs x + unsigned_abs y
  abs_sum x y = omega (arith, ints)

  -- a term more
  with_weight : (v : ℕ) (c : ℤ) (ts : List Term) → terms_weight (with_coefficient v c ts) ≤ unsigned_abs c + terms_weight ts
  with_weight v c ts = by_test (int_eq c (pos 0))
    where
      by_test : (b : Bool) → terms_weight (if b then ts else (v, c) ∷ ts) ≤ unsigned_abs c + terms_weight ts
      by_test true = omega arith
      by_test false = omega arith

  add_weight : (v : ℕ) (c : ℤ) (ts : List Term) → terms_weight (add_term v c ts) ≤ unsigned_abs c + terms_weight ts
  add_weight v c [] = with_weight v c []
  add_weight v c (t ∷ ts) = by_tests (nat_lt v t.0) (nat_eq v t.0) (add_weight v c ts)
    where
      by_tests : (a b : Bool) → terms_weight (add_term v c ts) ≤ unsigned_abs c + terms_weight ts
          → terms_weight (if a then with_coefficient v c (t ∷ ts) else (if b then with_coefficient v (c +ℤ t.1) ts else t ∷ add_term v c ts)) ≤ unsigned_abs c + terms_weight (t ∷ ts)
      by_tests true b h = with_weight v c (t ∷ ts)
      by_tests false true h = omega (arith, with_weight v (c +ℤ t.1) ts, abs_sum c t.1)
      by_tests false false h = omega (arith, h)

  adds_weight : (ts us : List Term) → terms_weight (add_terms ts us) ≤ terms_weight ts + terms_weight us
  adds_weight [] us = omega arith
  adds_weight (t ∷ ts) us = omega (arith, adds_weight ts (add_term t.0 t.1 us), add_weight t.0 t.1 us)

  opposite_weight : (ts : List Term) → terms_weight (opposite_terms ts) ≡ terms_weight ts
  opposite_weight [] = refl
  opposite_weight (t ∷ ts) = rw (opposite_weight ts, abs_opposite t.1) refl

  -- terms stay ascending
  with_above : (n v : ℕ) (c : ℤ) (ts : List Term) → n < v → All (λ (u : Term). n < u.0) ts → All (λ (u : Term). n < u.0) (with_coefficient v c ts)
  with_above n v c ts less all = by_test (int_eq c (pos 0))
    where
      by_test : (b : Bool) → All (λ (u : Term). n < u.0) (if b then ts else (v, c) ∷ ts)
      by_test true = all
      by_test false = All-cons (λ (u : Term). n < u.0) (v, c) ts less all

  add_above : (n v : ℕ) (c : ℤ) (ts : List Term) → n < v → All (λ (u : Term). n < u.0) ts → All (λ (u : Term). n < u.0) (add_term v c ts)
  add_above n v c [] less all = with_above n v c [] less all
  add_above n v c (t ∷ ts) less all = by_tests (nat_lt v t.0) (nat_eq v t.0) (add_above n v c ts less (All-tail (λ (u : Term). n < u.0) t ts all))
    where
      rest : All (λ (u : Term). n < u.0) ts
      rest = All-tail (λ (u : Term). n < u.0) t ts all

      by_tests : (a b : Bool) → All (λ (u : Term). n < u.0) (add_term v c ts)
          → All (λ (u : Term). n < u.0) (if a then with_coefficient v c (t ∷ ts) else (if b then with_coefficient v (c +ℤ t.1) ts else t ∷ add_term v c ts))
      by_tests true b h = with_above n v c (t ∷ ts) less all
      by_tests false true h = with_above n v (c +ℤ t.1) ts less rest
      by_tests false false h = All-cons (λ (u : Term). n < u.0) t (add_term v c ts) (All-head (λ (u : Term). n < u.0) t ts all) h

  with_ascending : (v : ℕ) (c : ℤ) (ts : List Term) → All (λ (u : Term). v < u.0) ts → AreAscending ts → AreAscending (with_coefficient v c ts)
  with_ascending v c ts above h = by_test (int_eq c (pos 0))
    where
      by_test : (b : Bool) → AreAscending (if b then ts else (v, c) ∷ ts)
      by_test true = h
      by_test false = (above, h)

  add_ascending : (v : ℕ) (c : ℤ) (ts : List Term) → AreAscending ts → AreAscending (add_term v c ts)
  add_ascending v c [] h = with_ascending v c [] (All-nil (λ (u : Term). v < u.0)) h
  add_ascending v c (t ∷ ts) h = by_less (add_ascending v c ts h.1) (nat_lt v t.0) refl
    where
      Ends : Bool → Bool → Type 0
      Ends a b = AreAscending (if a then with_coefficient v c (t ∷ ts) else (if b then with_coefficient v (c +ℤ t.1) ts else t ∷ add_term v c ts))

      later : v < t.0 → All (λ (u : Term). v < u.0) (t ∷ ts)
      later less = All-cons (λ (u : Term). v < u.0) t ts less (All-weaker (λ (u : Term). t.0 < u.0) (λ (u : Term). v < u.0) (λ u k. omega (arith, k, less)) ts h.0)

      same_ends : v ≡ t.0 → Ends false true
      same_ends same = with_ascending v (c +ℤ t.1) ts (subst (λ n. All (λ (u : Term). n < u.0) ts) (sym same) h.0) h.1

      after : t.0 ≤ v → (v ≡ t.0 → ⊥) → t.0 < v
      after le apart = grind (arith, le, apart)

      by_same : AreAscending (add_term v c ts) → (b : Bool) → nat_lt v t.0 ≡ false → nat_eq v t.0 ≡ b → Ends false b
      by_same rest true l e = same_ends ((Decides-eqb v t.0).0 e)
      by_same rest false l e = (add_above t.0 v c ts (after (ltb-false v t.0 l) (λ same. eqb-false v t.0 e same)) h.0, rest)

      by_less : AreAscending (add_term v c ts) → (a : Bool) → nat_lt v t.0 ≡ a → Ends a (nat_eq v t.0)
      by_less rest true l = with_ascending v c (t ∷ ts) (later (ltb-true v t.0 l)) h
      by_less rest false l = by_same rest (nat_eq v t.0) l refl

  adds_ascending : (ts us : List Term) → AreAscending us → AreAscending (add_terms ts us)
  adds_ascending [] us h = h
  adds_ascending (t ∷ ts) us h = adds_ascending ts (add_term t.0 t.1 us) (add_ascending t.0 t.1 us h)

  opposite_ascending : (ts : List Term) → AreAscending ts → AreAscending (opposite_terms ts)
  opposite_ascending [] h = h
  opposite_ascending (t ∷ ts) h = (All-map (λ (u : Term). t.0 < u.0) (λ (u : Term). (u.0, neg_ℤ u.1)) ts h.0, opposite_ascending ts h.1)

  -- no variable is new
  with_numbered : (v : ℕ) (c : ℤ) (ts : List Term) → v < slots_most → AreNumbered ts → AreNumbered (with_coefficient v c ts)
  with_numbered v c ts few h = by_test (int_eq c (pos 0))
    where
      by_test : (b : Bool) → AreNumbered (if b then ts else (v, c) ∷ ts)
      by_test true = h
      by_test false = (few, h)

  add_numbered : (v : ℕ) (c : ℤ) (ts : List Term) → v < slots_most → AreNumbered ts → AreNumbered (add_term v c ts)
  add_numbered v c [] few h = with_numbered v c [] few h
  add_numbered v c (t ∷ ts) few h = by_tests (nat_lt v t.0) (nat_eq v t.0) (add_numbered v c ts few h.1)
    where
      by_tests : (a b : Bool) → AreNumbered (add_term v c ts) → AreNumbered (if a then with_coefficient v c (t ∷ ts) else (if b then with_coefficient v (c +ℤ t.1) ts else t ∷ add_term v c ts))
      by_tests true b rest = with_numbered v c (t ∷ ts) few h
      by_tests false true rest = with_numbered v (c +ℤ t.1) ts few h.1
      by_tests false false rest = (h.0, rest)

  adds_numbered : (ts us : List Term) → AreNumbered ts → AreNumbered us → AreNumbered (add_terms ts us)
  adds_numbered [] us h k = k
  adds_numbered (t ∷ ts) us h k = adds_numbered ts (add_term t.0 t.1 us) h.1 (add_numbered t.0 t.1 us h.0 k)

  opposite_numbered : (ts : List Term) → AreNumbered ts → AreNumbered (opposite_terms ts)
  opposite_numbered [] h = tt
  opposite_numbered (t ∷ ts) h = (h.0, opposite_numbered ts h.1)

  -- forms
  pub up_more : (m n : ℕ) (a : Form) → m ≤ n → IsUpTo m a → IsUpTo n a
  up_more m n a le h = record { weight = omega (arith, le, h.weight); ascending = h.ascending; numbered = h.numbered }

  pub numeral_up : (n : ℕ) (z : ℤ) → unsigned_abs z ≤ n → IsUpTo n (numeral z)
  numeral_up n z h = record { weight = omega (arith, h); ascending = tt; numbered = tt }

  pub natural_up : (n k : ℕ) → k ≤ n → IsUpTo n (numeral (pos k))
  natural_up n k h = numeral_up n (pos k) h

  pub variable_up : (n v : ℕ) → 1 ≤ n → v < slots_most → IsUpTo n (variable v)
  variable_up n v h few = record { weight = omega (arith, h); ascending = (All-nil (λ (u : Term). v < u.0), tt); numbered = (few, tt) }

  pub plus_up : (m n : ℕ) (a b : Form) → IsUpTo m a → IsUpTo n b → IsUpTo (m + n) (plus a b)
  plus_up m n a b h k = record {
    weight = omega (arith, h.weight, k.weight, adds_weight a.terms b.terms, abs_sum a.constant b.constant);
    ascending = adds_ascending a.terms b.terms k.ascending;
    numbered = adds_numbered a.terms b.terms h.numbered k.numbered;
  }

  pub opposite_up : (n : ℕ) (a : Form) → IsUpTo n a → IsUpTo n (opposite_form a)
  opposite_up n a h = record { weight = rw (opposite_weight a.terms, abs_opposite a.constant) h.weight; ascending = opposite_ascending a.terms h.ascending; numbered = opposite_numbered a.terms h.numbered }

  pub minus_up : (m n : ℕ) (a b : Form) → IsUpTo m a → IsUpTo n b → IsUpTo (m + n) (minus a b)
  minus_up m n a b h k = plus_up m n a (opposite_form b) h (opposite_up n b k)

  pub raised_up : (n : ℕ) (a : Form) → IsUpTo n a → IsUpTo (n + 1) (raised a)
  raised_up n a h = record { weight = omega (arith, h.weight, abs_sum a.constant (pos 1)); ascending = h.ascending; numbered = h.numbered }
