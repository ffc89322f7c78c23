-- Products and sums that pass no limit.
use Rattle.std.proofs.Common.{◌≡◌, ℕ, ◌+◌, ◌*◌, ◌≤◌, ℤ, ◌+ℤ◌, ◌*ℤ◌, true, if◌then◌else◌, unsigned_abs, sym, ap, ◌∙◌, arith}
use Rattle.std.specs.Prelude.{nat_le}
use Rattle.std.proofs.lemmas.Int.{ints, unsigned_abs-mul}
use Rattle.std.proofs.Math.Nat.{mul-le-mul_left, mul-le-mul_right}
use Rattle.kat_fm.specs.Limits.{and_then, within, checked_product, checked_sum, weighed}
use Rattle.kat_fm.specs.Limits.Checked.{fits, passes}

pub product_size : (a b : ℤ) (m n : ℕ) → unsigned_abs a ≤ m → unsigned_abs b ≤ n → unsigned_abs (a *ℤ b) ≤ m * n
product_size a b m n h k =
    let x : unsigned_abs a * unsigned_abs b ≤ m * unsigned_abs b = mul-le-mul_right (unsigned_abs b) h in
    let y : m * unsigned_abs b ≤ m * n = mul-le-mul_left m k in
    omega (arith, unsigned_abs-mul a b, x, y)

pub sum_size : (x y : ℤ) (m n : ℕ) → unsigned_abs x ≤ m → unsigned_abs y ≤ n → unsigned_abs (x +ℤ y) ≤ m + n
sum_size x y m n h k = omega (arith, ints, h, k)

within_is : (limit : ℕ) (left right z : ℤ) → unsigned_abs z ≤ limit → within limit left right z ≡ fits z
within_is limit left right z h = let low : nat_le (unsigned_abs z) limit ≡ true = grind arith in ap (λ b. if b then fits z else passes left right) low

pub weighed_fits : (limit : ℕ) (f p g n : ℤ) → unsigned_abs (f *ℤ p) ≤ limit → unsigned_abs (g *ℤ n) ≤ limit → unsigned_abs ((f *ℤ p) +ℤ (g *ℤ n)) ≤ limit → fits ((f *ℤ p) +ℤ (g *ℤ n)) ≡ weighed limit f p g n
weighed_fits limit f p g n h k l =
    sym (ap (λ c. and_then c (λ x. and_then (checked_product limit g n) (λ y. checked_sum limit x y))) (within_is limit f p (f *ℤ p) h)
    ∙ ap (λ c. and_then c (λ y. checked_sum limit (f *ℤ p) y)) (within_is limit g n (g *ℤ n) k) ∙ within_is limit (f *ℤ p) (g *ℤ n) ((f *ℤ p) +ℤ (g *ℤ n)) l)
