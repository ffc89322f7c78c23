-- What is decided: that it holds, or that it doesn't.
use Rattle.std.proofs.Common.{◌≡◌, ℕ, zero, suc, ◌<◌, ◌≤◌, ◌⊎◌, inl, inr, ⊎_elim, ℤ, ◌≤ℤ◌, ◌<ℤ◌, int_le, int_lt, Bool, true, false, ltb, List, [], ◌∷◌, refl, subst, arith}
use Rattle.std.specs.List.{All}
use Rattle.std.specs.Ordering.{int_eq}
use Rattle.std.specs.Prelude.{◌==◌}
use Rattle.std.proofs.lemmas.Bool.{eqb-false, eqb-true, ltb-false, ltb-true}
use Rattle.std.proofs.lemmas.Bool.Decides.{Decides-int_eq, not_from_Decides}
use Rattle.std.proofs.lemmas.Int.{ints}
use Rattle.std.proofs.lemmas.List.Elements.{All-cons, All-head, All-nil, All-tail}

abbrev pub Decided : Type 0 → Type 0
Decided P = P ⊎ (P → ⊥)

pub both_decided : {P Q : Type 0} → Decided P → Decided Q → Decided (P × Q)
both_decided (inl p) (inl q) = inl (p, q)
both_decided (inl p) (inr none) = inr (λ h. none h.1)
both_decided (inr none) q = inr (λ h. none h.0)

pub either_decided : {P Q : Type 0} → Decided P → Decided Q → Decided (P ⊎ Q)
either_decided (inl p) q = inl (inl p)
either_decided (inr none) (inl q) = inl (inr q)
either_decided (inr none) (inr never) = inr (λ h. ⊎_elim none never h)

pub decided_as : {P Q : Type 0} → (P → Q) → (Q → P) → Decided P → Decided Q
decided_as on back (inl p) = inl (on p)
decided_as on back (inr none) = inr (λ q. none (back q))

-- numbers
by_true : {P : Type 0} (b c : Bool) → b ≡ c → (b ≡ true → P) → (b ≡ false → P → ⊥) → Decided P
by_true b true is on off = inl (on is)
by_true b false is on off = inr (off is)

pub same_numbers : (m n : ℕ) → Decided (m ≡ n)
same_numbers m n = by_true (m == n) (m == n) refl (eqb-true m n) (eqb-false m n)

pub less_decided : (m n : ℕ) → Decided (m < n)
less_decided m n = by_true (ltb m n) (ltb m n) refl (ltb-true m n) (λ is less. let more = ltb-false m n is in omega (arith, more, less))

pub most_decided : (m n : ℕ) → Decided (m ≤ n)
most_decided m n = decided_as (λ h. omega (arith, h)) (λ h. omega (arith, h)) (less_decided m (suc n))

pub same_integers : (a b : ℤ) → Decided (a ≡ b)
same_integers a b = by_true (int_eq a b) (int_eq a b) refl (Decides-int_eq a b).0 (not_from_Decides (int_eq a b) (Decides-int_eq a b))

at_most : (a b : ℤ) → int_le a b ≡ true → a ≤ℤ b
at_most a b h = grind (arith, ints)

not_at_most : (a b : ℤ) → int_le a b ≡ false → a ≤ℤ b → ⊥
not_at_most a b h most = absurd (grind (arith, ints))

is_below : (a b : ℤ) → int_lt a b ≡ true → a <ℤ b
is_below a b h = grind (arith, ints)

not_below : (a b : ℤ) → int_lt a b ≡ false → a <ℤ b → ⊥
not_below a b h less = absurd (grind (arith, ints))

pub integers_at_most : (a b : ℤ) → Decided (a ≤ℤ b)
integers_at_most a b = by_true (int_le a b) (int_le a b) refl (at_most a b) (not_at_most a b)

pub integers_below : (a b : ℤ) → Decided (a <ℤ b)
integers_below a b = by_true (int_lt a b) (int_lt a b) refl (is_below a b) (not_below a b)

-- each element, and each number up to one
pub all_decided : {A : Type 0} (P : A → Type 0) → ((x : A) → Decided (P x)) → (xs : List A) → Decided (All P xs)
all_decided P each [] = inl (All-nil P)
all_decided P each (x ∷ xs) = decided_as (λ h. All-cons P x xs h.0 h.1) (λ h. (All-head P x xs h, All-tail P x xs h)) (both_decided (each x) (all_decided P each xs))

below_next : (P : ℕ → Type 0) (n : ℕ) → ((k : ℕ) → k < n → P k) → P n → (k : ℕ) → k < suc n → P k
below_next P n before here k less = ⊎_elim {C = P k} (λ h. before k h) (λ same. subst P same here) (split k n less) where
  split : (k n : ℕ) → k < suc n → (k < n) ⊎ (n ≡ k)
  split zero zero h = inr refl
  split zero (suc n) h = inl (omega arith)
  split (suc k) zero h = absurd (omega (arith, h))
  split (suc k) (suc n) h = ⊎_elim (λ less. inl (omega (arith, less))) (λ same. inr (omega (arith, same))) (split k n (omega (arith, h)))

pub below_decided : (P : ℕ → Type 0) → ((k : ℕ) → Decided (P k)) → (n : ℕ) → Decided ((k : ℕ) → k < n → P k)
below_decided P each zero = inl (λ k less. absurd (omega (arith, less)))
below_decided P each (suc n) =
    decided_as (λ h. below_next P n h.0 h.1) (λ h. ((λ k less. h k (omega (arith, less))), h n (omega arith))) (both_decided (below_decided P each n) (each n))

-- each number, if it holds from one on
pub every_decided : (P : ℕ → Type 0) (n : ℕ) → ((k : ℕ) → Decided (P k)) → ((k : ℕ) → n ≤ k → P k) → Decided ((k : ℕ) → P k)
every_decided P n each past = decided_as (λ below k. by_place below k (less_decided k n)) (λ h k less. h k) (below_decided P each n) where
  by_place : ((k : ℕ) → k < n → P k) → (k : ℕ) → Decided (k < n) → P k
  by_place below k (inl less) = below k less
  by_place below k (inr more) = past k (omega (arith, more))
