-- Products of whole numbers, and fractions compared by them.
use Rattle.std.proofs.Common.{◌≡◌, ℕ, ◌*◌, ◌/◌, ◌<◌, ℤ, pos, negsuc, neg_ℤ, ◌+ℤ◌, ◌*ℤ◌, ◌≤ℤ◌, ◌<ℤ◌, true, unsigned_abs, refl, sym, ap, ◌∙◌, arith}
use Prim.Native.Nat.{◌∣◌}
use Rattle.std.specs.Prelude.{int_lt, int_div, int_rem}
use Rattle.std.proofs.Math.IntN.{*ℤ_comm}
use Rattle.std.proofs.lemmas.Int.{ints, by_lt_z, quot-rem}
use Rattle.std.proofs.lemmas.Nat.Gcd.{mod-eq-zero_of_dvd}
use Rattle.kat_linear.proofs.Integers.{add-mul, neg-mul, mul_assoc, mul_at_most, mul_above}
use Rattle.kat_fm.specs.Combinations.{gcd}
use Rattle.kat_fm.proofs.Divisors.{gcd_is, gcd_above}

-- what is at most another stays so, times a number of at least 0
pub times_most : (m : ℕ) (x y : ℤ) → x ≤ℤ y → (x *ℤ pos m) ≤ℤ (y *ℤ pos m)
times_most m x y h =
    let low : (pos m *ℤ (x +ℤ neg_ℤ y)) ≤ℤ pos 0 = mul_at_most (pos m) (x +ℤ neg_ℤ y) (omega (arith, ints)) (omega (arith, ints)) in
    let spread : pos m *ℤ (x +ℤ neg_ℤ y) ≡ (x *ℤ pos m) +ℤ neg_ℤ (y *ℤ pos m) = *ℤ_comm (pos m) (x +ℤ neg_ℤ y) ∙ add-mul x (neg_ℤ y) (pos m) ∙ ap (λ z. (x *ℤ pos m) +ℤ z) (neg-mul y (pos m)) in
    omega (arith, ints, low, spread)

-- and the other way, by a number above 0
pub times_most_back : (m : ℕ) (x y : ℤ) → 0 < m → (x *ℤ pos m) ≤ℤ (y *ℤ pos m) → x ≤ℤ y
times_most_back m x y above h = by_lt_z {P = x ≤ℤ y} y x
    (λ less.
    let high : pos 0 <ℤ ((x +ℤ neg_ℤ y) *ℤ pos m) = mul_above (x +ℤ neg_ℤ y) m (omega (arith, ints)) above in
    let spread : (x +ℤ neg_ℤ y) *ℤ pos m ≡ (x *ℤ pos m) +ℤ neg_ℤ (y *ℤ pos m) = add-mul x (neg_ℤ y) (pos m) ∙ ap (λ z. (x *ℤ pos m) +ℤ z) (neg-mul y (pos m)) in
    absurd (omega (arith, ints, high, spread, h)))
    (λ most. most)

swap_last : (x : ℤ) (m n : ℕ) → (x *ℤ pos m) *ℤ pos n ≡ (x *ℤ pos n) *ℤ pos m
swap_last x m n = mul_assoc x (pos m) (pos n) ∙ ap (λ y. x *ℤ y) (*ℤ_comm (pos m) (pos n)) ∙ sym (mul_assoc x (pos n) (pos m))

-- fractions x over a, y over b, z over d: at most is transitive
pub most_trans : (x y z : ℤ) (a b d : ℕ) → 0 < b → (x *ℤ pos b) ≤ℤ (y *ℤ pos a) → (y *ℤ pos d) ≤ℤ (z *ℤ pos b) → (x *ℤ pos d) ≤ℤ (z *ℤ pos a)
most_trans x y z a b d above h k =
    let first = times_most d (x *ℤ pos b) (y *ℤ pos a) h in
    let second = times_most a (y *ℤ pos d) (z *ℤ pos b) k in
    times_most_back b (x *ℤ pos d) (z *ℤ pos a) above (omega (arith, ints, first, second, swap_last x b d, swap_last y a d, swap_last z b a))

-- what a divisor divides
pub whole_parts : (k a : ℕ) → 0 < k → k ∣ a → k * (a / k) ≡ a
whole_parts k a above h = omega (arith, mod-eq-zero_of_dvd k h)

pub gcd_parts : (a b : ℕ) → 0 < a → (gcd a b * (a / gcd a b) ≡ a) × (gcd a b * (b / gcd a b) ≡ b)
gcd_parts a b above =
    let g = gcd a b in
    let is = gcd_is a b in
    (whole_parts g a (gcd_above a b above) is.0, whole_parts g b (gcd_above a b above) is.1)

turned : (k x y : ℕ) → y * (k * x) ≡ (k * y) * x
turned k x y = grind arith

-- the weights of a plus row and a minus row leave the variable out
pub cancels : (k x y a b : ℕ) → k * x ≡ a → k * y ≡ b → (pos y *ℤ pos a) +ℤ (pos x *ℤ neg_ℤ (pos b)) ≡ pos 0
cancels k x y a b e f =
    let m : pos x *ℤ neg_ℤ (pos b) ≡ neg_ℤ (pos b *ℤ pos x) = *ℤ_comm (pos x) (neg_ℤ (pos b)) ∙ neg-mul (pos b) (pos x) in
    let same : y * a ≡ b * x = ap (λ z. y * z) (sym e) ∙ turned k x y ∙ ap (λ z. z * x) f in
    omega (arith, ints, m, same)

-- a number of a sign, by its absolute value
pub minus_is : (z : ℤ) → int_lt z (pos 0) ≡ true → z ≡ neg_ℤ (pos (unsigned_abs z))
minus_is (pos n) e = absurd (grind (arith, ints))
minus_is (negsuc n) e = refl

pub plus_is : (z : ℤ) → int_lt (pos 0) z ≡ true → z ≡ pos (unsigned_abs z)
plus_is (pos n) e = refl
plus_is (negsuc n) e = absurd (grind (arith, ints))

-- a number divided by one that divides it
pub exact : (z : ℤ) (g : ℕ) → g ∣ unsigned_abs z → int_div z (pos g) *ℤ pos g ≡ z
exact (pos n) g h =
    let none : int_rem (pos n) (pos g) ≡ pos 0 = ap pos (mod-eq-zero_of_dvd g h) in
    omega (arith, ints, quot-rem (pos n) (pos g), none)
exact (negsuc n) g h =
    let none : int_rem (negsuc n) (pos g) ≡ pos 0 = ap (λ k. neg_ℤ (pos k)) (mod-eq-zero_of_dvd g h) in
    omega (arith, ints, quot-rem (negsuc n) (pos g), none)
