-- Going back by one variable keeps rows met.
use Rattle.std.proofs.Common.{◌≡◌, ℕ, zero, suc, ℤ, pos, neg_ℤ, ◌+ℤ◌, ◌*ℤ◌, ◌≤ℤ◌, List, [], ◌∷◌, length, map, set, get_or, refl, sym, ap, ◌∙◌, arith}
use Rattle.std.proofs.Math.IntN.{zero-*ℤ, *ℤ-zero, *ℤ_comm}
use Rattle.std.proofs.lemmas.Int.{ints}
use Rattle.kat_linear.proofs.Integers.{mul-add, add-mul, mul_assoc, mul_at_most, neg-mul}
use Rattle.kat_fm.specs.Limits.{and_then, checked_product, checked_scaled}
use Rattle.kat_fm.specs.Limits.Checked.{fits}
use Rattle.kat_fm.specs.Combinations.{Combination, at}
use Rattle.kat_fm.proofs.Tracks.{dot}
use Rattle.kat_fm.proofs.Combinations.{and_then_fits, within_fits, value}

fits_list : (a b : List ℤ) → fits a ≡ fits b → a ≡ b
fits_list a b e = cc

pub scaled_fits : (limit : ℕ) (ns : List ℤ) (v : ℤ) (zs : List ℤ) → checked_scaled limit ns v ≡ fits zs → zs ≡ map (λ n. n *ℤ v) ns
scaled_fits limit [] v zs e = sym (fits_list [] zs e)
scaled_fits limit (n ∷ ns) v zs e =
    let first = and_then_fits (checked_product limit n v) (λ x. and_then (checked_scaled limit ns v) (λ xs. fits (x ∷ xs))) zs e in
    let second = and_then_fits (checked_scaled limit ns v) (λ xs. fits (first.0 ∷ xs)) zs first.2 in
    let x : first.0 ≡ n *ℤ v = within_fits limit n v (n *ℤ v) first.0 first.1 in
    let xs : second.0 ≡ map (λ k. k *ℤ v) ns = scaled_fits limit ns v second.0 second.1 in
    sym (fits_list (first.0 ∷ second.0) zs second.2) ∙ ap (λ z. z ∷ second.0) x ∙ ap (λ more. (n *ℤ v) ∷ more) xs

pub scaled_at : (ns : List ℤ) (w : ℤ) (x : ℕ) → get_or ns x (pos 0) ≡ pos 0 → get_or (map (λ n. n *ℤ w) ns) x (pos 0) ≡ pos 0
scaled_at [] w x e = refl
scaled_at (n ∷ ns) w zero e = ap (λ k. k *ℤ w) e ∙ zero-*ℤ w
scaled_at (n ∷ ns) w (suc x) e = scaled_at ns w x e

pub dot-scaled : (cs ns : List ℤ) (v : ℤ) → dot cs (map (λ n. n *ℤ v) ns) ≡ dot cs ns *ℤ v
dot-scaled [] ns v = sym (zero-*ℤ v)
dot-scaled (c ∷ cs) [] v = sym (zero-*ℤ v)
dot-scaled (c ∷ cs) (n ∷ ns) v = rw (dot-scaled cs ns v, add-mul (c *ℤ n) (dot cs ns) v, mul_assoc c n v) refl

-- a variable that had the numerator 0 gets another
pub dot-set : (cs ns : List ℤ) (x : ℕ) (u : ℤ) → length cs ≡ length ns → get_or ns x (pos 0) ≡ pos 0 → dot cs (set ns x u) ≡ dot cs ns +ℤ (get_or cs x (pos 0) *ℤ u)
dot-set [] [] x u h e = rw (zero-*ℤ u) refl
dot-set [] (n ∷ ns) x u h e = absurd (omega arith)
dot-set (c ∷ cs) [] x u h e = absurd (omega arith)
dot-set (c ∷ cs) (n ∷ ns) zero u h e =
    let none : c *ℤ n ≡ pos 0 = ap (λ k. c *ℤ k) e ∙ *ℤ-zero c in
    omega (arith, ints, none)
dot-set (c ∷ cs) (n ∷ ns) (suc x) u h e = rw (dot-set cs ns x u (omega arith) e) (omega (arith, ints))

-- the row's sum after the step: v times what it was, and the coefficient times the numerator
pub value_back : (den : ℤ) (v x : ℕ) (nums scaled : List ℤ) (u d : ℤ) (row : Combination) → length row.coefficients ≡ length scaled → scaled ≡ map (λ n. n *ℤ pos v) nums → d ≡ den *ℤ pos v → get_or scaled x (pos 0) ≡ pos 0
    → dot row.coefficients (set scaled x u) +ℤ row.constant *ℤ d ≡ (value den nums row *ℤ pos v) +ℤ (at x row *ℤ u)
value_back den v x nums scaled u d row sizes e is none =
    let a : dot row.coefficients scaled ≡ dot row.coefficients nums *ℤ pos v = ap (dot row.coefficients) e ∙ dot-scaled row.coefficients nums (pos v) in
    let b : dot row.coefficients (set scaled x u) ≡ dot row.coefficients scaled +ℤ (at x row *ℤ u) = dot-set row.coefficients scaled x u sizes none in
    let k : row.constant *ℤ d ≡ (row.constant *ℤ den) *ℤ pos v = ap (λ y. row.constant *ℤ y) is ∙ sym (mul_assoc row.constant den (pos v)) in
    let whole : value den nums row *ℤ pos v ≡ (dot row.coefficients nums *ℤ pos v) +ℤ ((row.constant *ℤ den) *ℤ pos v) = add-mul (dot row.coefficients nums) (row.constant *ℤ den) (pos v) in
    omega (arith, ints, a, b, k, whole)

-- rows without the variable stay met
pub rest_met : (s u c : ℤ) (v : ℕ) → c ≡ pos 0 → s ≤ℤ pos 0 → ((s *ℤ pos v) +ℤ (c *ℤ u)) ≤ℤ pos 0
rest_met s u c v e low =
    let a : (pos v *ℤ s) ≤ℤ pos 0 = mul_at_most (pos v) s (omega (arith, ints)) low in
    let b : s *ℤ pos v ≡ pos v *ℤ s = *ℤ_comm s (pos v) in
    let k : c *ℤ u ≡ pos 0 = ap (λ y. y *ℤ u) e ∙ zero-*ℤ u in
    omega (arith, ints, a, b, k)

-- a minus row is met by a value of at least its bound
pub minus_met : (s u : ℤ) (b v : ℕ) (c : ℤ) → c ≡ neg_ℤ (pos b) → (s *ℤ pos v) ≤ℤ (u *ℤ pos b) → ((s *ℤ pos v) +ℤ (c *ℤ u)) ≤ℤ pos 0
minus_met s u b v c e low =
    let k : c *ℤ u ≡ neg_ℤ (pos b *ℤ u) = ap (λ y. y *ℤ u) e ∙ neg-mul (pos b) u in
    let m : pos b *ℤ u ≡ u *ℤ pos b = *ℤ_comm (pos b) u in
    omega (arith, ints, k, m, low)

-- a plus row is met, since the combination with the row that gave the bound is: f and g times h are v and a
pub plus_met : (s u c : ℤ) (a v f g h : ℕ) → c ≡ pos a → pos h *ℤ pos f ≡ pos v → pos h *ℤ pos g ≡ pos a → ((pos f *ℤ s) +ℤ (pos g *ℤ u)) ≤ℤ pos 0 → ((s *ℤ pos v) +ℤ (c *ℤ u)) ≤ℤ pos 0
plus_met s u c a v f g h e is_v is_a low =
    let times : (pos h *ℤ ((pos f *ℤ s) +ℤ (pos g *ℤ u))) ≤ℤ pos 0 = mul_at_most (pos h) ((pos f *ℤ s) +ℤ (pos g *ℤ u)) (omega (arith, ints)) low in
    let spread : pos h *ℤ ((pos f *ℤ s) +ℤ (pos g *ℤ u)) ≡ ((pos h *ℤ pos f) *ℤ s) +ℤ ((pos h *ℤ pos g) *ℤ u) = mul-add (pos h) (pos f *ℤ s) (pos g *ℤ u) ∙ rw (mul_assoc (pos h) (pos f) s, mul_assoc (pos h) (pos g) u) refl in
    let v_part : (pos h *ℤ pos f) *ℤ s ≡ s *ℤ pos v = ap (λ y. y *ℤ s) is_v ∙ *ℤ_comm (pos v) s in
    let a_part : (pos h *ℤ pos g) *ℤ u ≡ c *ℤ u = ap (λ y. y *ℤ u) (is_a ∙ sym e) in
    omega (arith, ints, times, spread, v_part, a_part)

-- a plus row is met by a value of at most its bound
pub plus_bound : (s u : ℤ) (a v : ℕ) (c : ℤ) → c ≡ pos a → (s *ℤ pos v) ≤ℤ (neg_ℤ u *ℤ pos a) → ((s *ℤ pos v) +ℤ (c *ℤ u)) ≤ℤ pos 0
plus_bound s u a v c e low =
    let k : c *ℤ u ≡ pos a *ℤ u = ap (λ y. y *ℤ u) e in
    let m : pos a *ℤ u ≡ u *ℤ pos a = *ℤ_comm (pos a) u in
    let n : neg_ℤ u *ℤ pos a ≡ neg_ℤ (u *ℤ pos a) = neg-mul u (pos a) in
    omega (arith, ints, k, m, n, low)
