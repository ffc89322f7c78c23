-- Values of sums of linear forms.
use Rattle.std.proofs.Common.{◌≡◌, ℕ, ℤ, pos, ◌+ℤ◌, ◌-ℤ◌, ◌*ℤ◌, neg_ℤ, int_lt, int_le, Bool, true, false, nat_eq, nat_lt, List, [], ◌∷◌, map, refl, sym, ap, ◌∙◌, arith}
use Rattle.std.specs.Ordering.{int_eq}
use Rattle.std.proofs.Math.IntN.{zero-*ℤ, +ℤ_idl, *ℤ_comm}
use Rattle.std.proofs.lemmas.Int.{ints}
use Rattle.std.proofs.lemmas.Bool.Decides.{Decides-eqb, Decides-int_eq}
use Rattle.kat_linear.specs.Rows.{Form, Term, term_sum, scaled_value}
use Rattle.kat_linear.proofs.Integers.{add-mul, neg-mul, mul_one}
use Rattle.kat_symbols.specs.Sums.{numeral, variable, with_coefficient, add_term, add_terms, plus, opposite_form, minus, raised}

with_value : (w : ℕ → ℤ) (v : ℕ) (c : ℤ) (ts : List Term) → term_sum w (with_coefficient v c ts) ≡ c *ℤ w v +ℤ term_sum w ts
with_value w v c ts = by_test (int_eq c (pos 0)) refl
  where
    by_test : (b : Bool) → int_eq c (pos 0) ≡ b → term_sum w (with_coefficient v c ts) ≡ c *ℤ w v +ℤ term_sum w ts
    by_test true e =
        let none : c ≡ pos 0 = (Decides-int_eq c (pos 0)).0 e in
        rw (e, none, zero-*ℤ (w v)) (sym (+ℤ_idl (term_sum w ts)))
    by_test false e = rw e refl

add_value : (w : ℕ → ℤ) (v : ℕ) (c : ℤ) (ts : List Term) → term_sum w (add_term v c ts) ≡ c *ℤ w v +ℤ term_sum w ts
add_value w v c [] = with_value w v c []
add_value w v c (t ∷ ts) = by_less (nat_lt v t.0) refl (add_value w v c ts)
  where
    Goal : Type 0
    Goal = term_sum w (add_term v c (t ∷ ts)) ≡ c *ℤ w v +ℤ term_sum w (t ∷ ts)

    by_same : (b : Bool) → nat_lt v t.0 ≡ false → nat_eq v t.0 ≡ b → term_sum w (add_term v c ts) ≡ c *ℤ w v +ℤ term_sum w ts → term_sum w (add_term v c (t ∷ ts)) ≡ c *ℤ w v +ℤ term_sum w (t ∷ ts)
    by_same true l e h =
        let same : v ≡ t.0 = (Decides-eqb v t.0).0 e in
        let moved : w v ≡ w t.0 = ap w same in
        rw (l, e, with_value w v (c +ℤ t.1) ts, add-mul c t.1 (w v), moved) (omega (arith, ints))
    by_same false l e h = rw (l, e, h) (omega (arith, ints))

    by_less : (b : Bool) → nat_lt v t.0 ≡ b → term_sum w (add_term v c ts) ≡ c *ℤ w v +ℤ term_sum w ts → term_sum w (add_term v c (t ∷ ts)) ≡ c *ℤ w v +ℤ term_sum w (t ∷ ts)
    by_less true l h = rw l (with_value w v c (t ∷ ts))
    by_less false l h = by_same (nat_eq v t.0) l refl h

adds_value : (w : ℕ → ℤ) (ts us : List Term) → term_sum w (add_terms ts us) ≡ term_sum w ts +ℤ term_sum w us
adds_value w [] us = sym (+ℤ_idl (term_sum w us))
adds_value w (t ∷ ts) us = rw (adds_value w ts (add_term t.0 t.1 us), add_value w t.0 t.1 us) (omega (arith, ints))

opposite_sum : (w : ℕ → ℤ) (ts : List Term) → term_sum w (map (λ (t : Term). (t.0, neg_ℤ t.1)) ts) ≡ neg_ℤ (term_sum w ts)
opposite_sum w [] = refl
opposite_sum w (t ∷ ts) = rw (opposite_sum w ts, neg-mul t.1 (w t.0)) (omega (arith, ints))

pub plus_value : (w : ℕ → ℤ) (a b : Form) → scaled_value 1 w (plus a b) ≡ scaled_value 1 w a +ℤ scaled_value 1 w b
plus_value w a b = rw (adds_value w a.terms b.terms, add-mul a.constant b.constant (pos 1)) (omega (arith, ints))

opposite_value : (w : ℕ → ℤ) (a : Form) → scaled_value 1 w (opposite_form a) ≡ neg_ℤ (scaled_value 1 w a)
opposite_value w a = rw (opposite_sum w a.terms, neg-mul a.constant (pos 1)) (omega (arith, ints))

pub minus_value : (w : ℕ → ℤ) (a b : Form) → scaled_value 1 w (minus a b) ≡ scaled_value 1 w a -ℤ scaled_value 1 w b
minus_value w a b = plus_value w a (opposite_form b) ∙ rw (opposite_value w b) (omega (arith, ints))

pub numeral_value : (w : ℕ → ℤ) (z : ℤ) → scaled_value 1 w (numeral z) ≡ z
numeral_value w z = rw (mul_one z) (+ℤ_idl z)

pub variable_value : (w : ℕ → ℤ) (v : ℕ) → scaled_value 1 w (variable v) ≡ w v
variable_value w v = rw (*ℤ_comm (pos 1) (w v), mul_one (w v)) (omega (arith, ints))

pub lt_shift : (x y : ℤ) → int_le ((x -ℤ y) +ℤ pos 1) (pos 0) ≡ int_lt x y
lt_shift x y = grind (arith, ints)

pub le_shift : (x y : ℤ) → int_le (x -ℤ y) (pos 0) ≡ int_le x y
le_shift x y = grind (arith, ints)

pub raised_value : (w : ℕ → ℤ) (a : Form) → scaled_value 1 w (raised a) ≡ scaled_value 1 w a +ℤ pos 1
raised_value w a = rw (add-mul a.constant (pos 1) (pos 1)) (omega (arith, ints))
