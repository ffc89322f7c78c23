-- Terms put into terms, after others.
use Rattle.std.proofs.Common.{◌≡◌, ℕ, ℤ, pos, ◌+ℤ◌, Bool, true, false, nat_lt, nat_eq, List, [], ◌∷◌, ◌++◌, refl}
use Rattle.std.specs.Ordering.{int_eq}
use Rattle.kat_linear.specs.Rows.{Term}
use Rattle.kat_symbols.specs.Sums.{with_coefficient, add_term}

pub with_apart : (v : ℕ) (c : ℤ) (ts : List Term) → with_coefficient v c ts ≡ with_coefficient v c [] ++ ts
with_apart v c ts = by_test (int_eq c (pos 0)) refl
  where
    by_test : (b : Bool) → int_eq c (pos 0) ≡ b → with_coefficient v c ts ≡ with_coefficient v c [] ++ ts
    by_test true e = rw e refl
    by_test false e = rw e refl

pub add_below : (v : ℕ) (c : ℤ) (t : Term) (ts : List Term) → nat_lt v t.0 ≡ true → add_term v c (t ∷ ts) ≡ with_coefficient v c [] ++ t ∷ ts
add_below v c t ts e = rw e (with_apart v c (t ∷ ts))

pub add_at : (v : ℕ) (c : ℤ) (t : Term) (ts : List Term) → nat_lt v t.0 ≡ false → nat_eq v t.0 ≡ true → add_term v c (t ∷ ts) ≡ with_coefficient v (c +ℤ t.1) [] ++ ts
add_at v c t ts e f = rw (e, f) (with_apart v (c +ℤ t.1) ts)

pub add_above : (v : ℕ) (c : ℤ) (t : Term) (ts : List Term) → nat_lt v t.0 ≡ false → nat_eq v t.0 ≡ false → add_term v c (t ∷ ts) ≡ t ∷ add_term v c ts
add_above v c t ts e f = rw (e, f) refl
