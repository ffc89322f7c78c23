-- Euclid's algorithm gives the greatest common divisor.
use Rattle.std.proofs.Common.{◌≡◌, ℕ, zero, suc, ◌%◌, ◌<◌, Bool, true, false, if◌then◌else◌, ◌==◌, refl, subst, arith}
use Prim.Native.Nat.{◌∣◌}
use Rattle.std.specs.Int.{IsGcd}
use Rattle.std.proofs.lemmas.Bool.{eqb-true, eqb-false}
use Rattle.std.proofs.lemmas.Nat.Gcd.{IsGcd-from_zero, IsGcd-from_mod, same_from_IsGcd, mod-eq-zero_of_dvd}
use Rattle.kat_fm.specs.Combinations.{euclid, gcd}

step_gcd : (b : Bool) (n a k : ℕ) → (k == 0) ≡ b → ((k == 0) ≡ false → IsGcd k (a % k) (euclid n k (a % k))) → IsGcd a k (if b then a else euclid n k (a % k))
step_gcd true n a k e h = IsGcd-from_zero a k (eqb-true k 0 e)
step_gcd false n a k e h = IsGcd-from_mod a k (euclid n k (a % k)) (h e)

euclid_gcd : (n a b : ℕ) → b < n → IsGcd a b (euclid n a b)
euclid_gcd zero a b h = absurd (omega arith)
euclid_gcd (suc n) a b h = step_gcd (b == 0) n a b refl (λ e. euclid_gcd n b (a % b) (let positive = eqb-false b 0 e in omega arith))

pub gcd_is : (a b : ℕ) → IsGcd a b (gcd a b)
unfolding gcd
gcd_is a b = euclid_gcd (suc b) a b (omega arith)

pub same_gcd : (a b g : ℕ) → IsGcd a b g → g ≡ gcd a b
same_gcd a b g h = same_from_IsGcd a b g (gcd a b) h (gcd_is a b)

-- the divisor isn't 0 if the first number isn't
pub gcd_above : (a b : ℕ) → 0 < a → 0 < gcd a b
gcd_above a b h = above (gcd a b) refl
  where
    above : (g : ℕ) → gcd a b ≡ g → 0 < g
    above zero e = let none : a % 0 ≡ 0 = mod-eq-zero_of_dvd 0 (let P : ℕ → Type 0 = λ k. k ∣ a in subst P e (gcd_is a b).0) in absurd (omega arith)
    above (suc g) e = omega arith
