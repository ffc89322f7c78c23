-- Laws of whole numbers that the library has no lemma for.
use Rattle.std.proofs.Common.{◌≡◌, ℕ, zero, suc, ◌<◌, ℤ, pos, negsuc, ◌+ℤ◌, ◌*ℤ◌, neg_ℤ, ◌≤ℤ◌, ◌<ℤ◌, refl, sym, ap, ◌∙◌, arith}
use Rattle.std.proofs.Math.IntN.{ℤ_ind, suc_ℤ-*ℤ, pred_ℤ-*ℤ, zero-*ℤ, *ℤ-zero, *ℤ_comm, +ℤ_one, -ℤ_one, +ℤ_idl}
use Rattle.std.proofs.Math.Nat.{mul-le-mul_left}
use Rattle.std.proofs.lemmas.Int.{ints}

-- (a + 1) b = a b + b
pub add_one-mul : (a b : ℤ) → (a +ℤ pos 1) *ℤ b ≡ (a *ℤ b) +ℤ b
add_one-mul a b = ap (λ x. x *ℤ b) (+ℤ_one a) ∙ suc_ℤ-*ℤ a b

-- (a - 1) b = a b - b
pub sub_one-mul : (a b : ℤ) → (a +ℤ neg_ℤ (pos 1)) *ℤ b ≡ (a *ℤ b) +ℤ neg_ℤ b
sub_one-mul a b = ap (λ x. x *ℤ b) (-ℤ_one a) ∙ pred_ℤ-*ℤ a b

-- a product over a sum
pub mul-add : (a b c : ℤ) → a *ℤ (b +ℤ c) ≡ (a *ℤ b) +ℤ (a *ℤ c)
mul-add a b c =
    ℤ_ind (λ x. x *ℤ (b +ℤ c) ≡ (x *ℤ b) +ℤ (x *ℤ c))
    (rw (zero-*ℤ (b +ℤ c), zero-*ℤ b, zero-*ℤ c) refl)
    (λ n h. rw (add_one-mul (pos n) (b +ℤ c), add_one-mul (pos n) b, add_one-mul (pos n) c, h) (omega (arith, ints)))
    (λ n h. rw (sub_one-mul (neg_ℤ (pos n)) (b +ℤ c), sub_one-mul (neg_ℤ (pos n)) b, sub_one-mul (neg_ℤ (pos n)) c, h) (omega (arith, ints)))
    a

pub add-mul : (a b c : ℤ) → (a +ℤ b) *ℤ c ≡ (a *ℤ c) +ℤ (b *ℤ c)
add-mul a b c = rw (*ℤ_comm (a +ℤ b) c, *ℤ_comm a c, *ℤ_comm b c) (mul-add c a b)

pub neg-mul : (a b : ℤ) → neg_ℤ a *ℤ b ≡ neg_ℤ (a *ℤ b)
neg-mul a b =
    let cancels : (neg_ℤ a +ℤ a) ≡ pos 0 = omega (arith, ints) in
    let e : (neg_ℤ a *ℤ b) +ℤ (a *ℤ b) ≡ pos 0 = sym (add-mul (neg_ℤ a) a b) ∙ ap (λ x. x *ℤ b) cancels ∙ zero-*ℤ b in
    omega (arith, ints)

pub mul_assoc : (a b c : ℤ) → (a *ℤ b) *ℤ c ≡ a *ℤ (b *ℤ c)
mul_assoc a b c =
    ℤ_ind (λ x. (x *ℤ b) *ℤ c ≡ x *ℤ (b *ℤ c))
    (rw (zero-*ℤ b, zero-*ℤ c, zero-*ℤ (b *ℤ c)) refl)
    (λ n h. rw (add_one-mul (pos n) b, add-mul (pos n *ℤ b) b c, add_one-mul (pos n) (b *ℤ c), h) refl)
    (λ n h. rw (sub_one-mul (neg_ℤ (pos n)) b, add-mul (neg_ℤ (pos n) *ℤ b) (neg_ℤ b) c, sub_one-mul (neg_ℤ (pos n)) (b *ℤ c), h, neg-mul b c) refl)
    a

-- a multiplier of at least 0 keeps a sum of at most 0
pub mul_at_most : (m x : ℤ) → pos 0 ≤ℤ m → x ≤ℤ pos 0 → (m *ℤ x) ≤ℤ pos 0
mul_at_most (pos m) (pos x) h k = let e : x ≡ 0 = omega (arith, ints) in rw (e, *ℤ-zero (pos m)) (omega (arith, ints))
mul_at_most (pos m) (negsuc x) h k = omega (arith, ints)
mul_at_most (negsuc m) x h k = absurd (omega (arith, ints))

-- a product of two numbers above 0 is above 0
pub mul_above : (m : ℤ) (n : ℕ) → pos 0 <ℤ m → 0 < n → pos 0 <ℤ (m *ℤ pos n)
mul_above (pos zero) n h k = absurd (omega (arith, ints))
mul_above (pos (suc m)) n h k = omega (arith, ints, mul-le-mul_left (suc m) k)
mul_above (negsuc m) n h k = absurd (omega (arith, ints))

pub mul_one : (a : ℤ) → a *ℤ pos 1 ≡ a
mul_one a = *ℤ_comm a (pos 1) ∙ add_one-mul (pos 0) a ∙ rw (zero-*ℤ a) (+ℤ_idl a)
