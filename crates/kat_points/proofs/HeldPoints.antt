-- A point and one that it is held as: the same numbers pass 2^126 at both.
use Rattle.std.proofs.Common.{◌≡◌, ℕ, zero, suc, ◌*◌, ◌<◌, ◌≤◌, ◌^◌, ◌⊎◌, inl, inr, ⊎_elim, ℤ, pos, negsuc, ◌+ℤ◌, ◌*ℤ◌, ◌<ℤ◌, int_lt, unsigned_abs, Bool, true, false, ◌||◌, List, [], ◌∷◌, ◌++◌, All, length, refl, sym, ap, ◌∙◌, subst, arith}
use Rattle.std.proofs.lemmas.Int.{ints, unsigned_abs-mul}
use Rattle.std.proofs.lemmas.List.Elements.{All-head, All-tail}
use Rattle.kat_linear.specs.Rows.{Term}
use Rattle.kat_form.specs.Encodings.{Sense}
use Rattle.kat_form.specs.Encodings.Sense.{truth, atom, gate}
use Rattle.kat_form.specs.Facts.{Fact}
use Rattle.kat_points.specs.Held.{AreHeldAs, HeldPointsAreAlike, IsHeldAs, IsHeldPoint}
use Rattle.kat_points.specs.Points.{IsDecisiveFor, IsNarrowPoint, IsPointOf, IsTooWide, PointForm, goes_past, is_wide, number_at, passes_at, some_pass, term_factors}

-- wide numbers
wide_less : (z : ℤ) → is_wide z ≡ true → 2 ^ 126 < unsigned_abs z
wide_less z e = grind (arith, e)

less_wide : (z : ℤ) → 2 ^ 126 < unsigned_abs z → is_wide z ≡ true
less_wide z h = grind (arith, h)

at_least : (a b : ℕ) → 0 < a → b ≤ a * b
at_least zero b h = absurd (omega (arith, h))
at_least (suc a) b h = omega arith

wide_product : (a n : ℤ) → 0 < unsigned_abs a → is_wide n ≡ true → is_wide (a *ℤ n) ≡ true
wide_product a n some wide =
    let large = at_least (unsigned_abs a) (unsigned_abs n) some in
    less_wide (a *ℤ n) (omega (arith, unsigned_abs-mul a n, large, wide_less n wide))

zero_or : (a : ℤ) → (a ≡ pos 0) ⊎ (0 < unsigned_abs a)
zero_or (pos zero) = inl refl
zero_or (pos (suc n)) = inr (omega arith)
zero_or (negsuc n) = inr (omega arith)

zero_product : (n : ℤ) → pos 0 *ℤ n ≡ pos 0
zero_product n = omega (arith, ints)

-- one product and the sum with it
abbrev past_at : ℤ → ℤ → (ℤ → Bool) → Bool
past_at sum p rest = is_wide p || is_wide (sum +ℤ p) || rest (sum +ℤ p)

past_wide : (sum p : ℤ) (rest : ℤ → Bool) → is_wide p ≡ true → past_at sum p rest ≡ true
past_wide sum p rest wide = ap (λ b. b || is_wide (sum +ℤ p) || rest (sum +ℤ p)) wide

past_same : (sum a n h : ℤ) (r s : ℤ → Bool) → IsHeldAs n h → ((k : ℤ) → r k ≡ s k) → past_at sum (a *ℤ n) r ≡ past_at sum (a *ℤ h) s
past_same sum a n h r s held same = ⊎_elim by_same by_wide held
  where
    on : (p : ℤ) → past_at sum p r ≡ past_at sum p s
    on p = ap (λ b. is_wide p || is_wide (sum +ℤ p) || b) (same (sum +ℤ p))

    by_same : n ≡ h → past_at sum (a *ℤ n) r ≡ past_at sum (a *ℤ h) s
    by_same e = on (a *ℤ n) ∙ ap (λ m. past_at sum (a *ℤ m) s) e

    by_wide : (is_wide n ≡ true) × (is_wide h ≡ true) × (int_lt n (pos 0) ≡ int_lt h (pos 0)) → past_at sum (a *ℤ n) r ≡ past_at sum (a *ℤ h) s
    by_wide both = ⊎_elim
        (λ (none : a ≡ pos 0). let P : ℤ → Type 0 = λ b. past_at sum (b *ℤ n) r ≡ past_at sum (b *ℤ h) s in
        subst P (sym none) (ap (λ p. past_at sum p r) (zero_product n) ∙ on (pos 0) ∙ ap (λ p. past_at sum p s) (sym (zero_product h))))
        (λ (some : 0 < unsigned_abs a). past_wide sum (a *ℤ n) r (wide_product a n some both.0) ∙ sym (past_wide sum (a *ℤ h) s (wide_product a h some both.1)))
        (zero_or a)

-- numerators
number_held : (nums held : List ℤ) (v : ℕ) → AreHeldAs nums held → IsHeldAs (number_at nums v) (number_at held v)
number_held [] [] v all = inl refl
number_held [] (h ∷ hs) v all = absurd all
number_held (z ∷ zs) [] v all = absurd all
number_held (z ∷ zs) (h ∷ hs) zero all = all.0
number_held (z ∷ zs) (h ∷ hs) (suc v) all = number_held zs hs v all.1

count_held : (nums held : List ℤ) → AreHeldAs nums held → length nums ≡ length held
count_held [] [] all = refl
count_held [] (h ∷ hs) all = absurd all
count_held (z ∷ zs) [] all = absurd all
count_held (z ∷ zs) (h ∷ hs) all = ap suc (count_held zs hs all.1)

terms_same : (nums held : List ℤ) (ts : List Term) (a d e sum : ℤ) → AreHeldAs nums held → IsHeldAs d e → goes_past sum (term_factors nums ts ++ (a, d) ∷ []) ≡ goes_past sum (term_factors held ts ++ (a, e) ∷ [])
terms_same nums held [] a d e sum all den = past_same sum a d e (λ k. false) (λ k. false) den (λ k. refl)
terms_same nums held (t ∷ ts) a d e sum all den =
    past_same sum t.1 (number_at nums t.0) (number_at held t.0) (λ k. goes_past k (term_factors nums ts ++ (a, d) ∷ [])) (λ k. goes_past k (term_factors held ts ++ (a, e) ∷ []))
    (number_held nums held t.0 all) (λ k. terms_same nums held ts a d e k all den)

passes_same : (p held : PointForm) (s : Sense) → IsHeldPoint p held → passes_at p s ≡ passes_at held s
passes_same p held (truth v) is = refl
passes_same p held (atom form) is = terms_same p.nums held.nums form.terms form.constant p.den held.den (pos 0) is.nums is.den
passes_same p held gate is = refl

pass_same : (p held : PointForm) (ss : List Sense) → IsHeldPoint p held → some_pass p ss ≡ some_pass held ss
pass_same p held [] is = refl
pass_same p held (s ∷ ss) is = ap (λ b. b || some_pass p ss) (passes_same p held s is) ∙ ap (λ b. passes_at held s || b) (pass_same p held ss is)

-- the shape of a point
above_held : (z h : ℤ) → IsHeldAs z h → pos 0 <ℤ z → pos 0 <ℤ h
above_held z h (inl e) large = subst (λ (x : ℤ). pos 0 <ℤ x) e large
above_held z h (inr both) large = let wide = wide_less h both.1 in signs z h both.2 large wide
  where
    signs : (z h : ℤ) → int_lt z (pos 0) ≡ int_lt h (pos 0) → pos 0 <ℤ z → 2 ^ 126 < unsigned_abs h → pos 0 <ℤ h
    signs z h same large wide = grind (arith, ints, same, large, wide)

turned : (z h : ℤ) → IsHeldAs z h → IsHeldAs h z
turned z h (inl e) = inl (sym e)
turned z h (inr both) = inr (both.1, both.0, sym both.2)

all_turned : (zs hs : List ℤ) → AreHeldAs zs hs → AreHeldAs hs zs
all_turned [] [] all = tt
all_turned [] (h ∷ hs) all = absurd all
all_turned (z ∷ zs) [] all = absurd all
all_turned (z ∷ zs) (h ∷ hs) all = (turned z h all.0, all_turned zs hs all.1)

held_back : (p held : PointForm) → IsHeldPoint p held → IsHeldPoint held p
held_back p held is = record { den = turned p.den held.den is.den; nums = all_turned p.nums held.nums is.nums; truths = sym is.truths }

shape_held : (senses : List Sense) (numbers : ℕ) (p held : PointForm) → IsHeldPoint p held → IsPointOf senses numbers p → IsPointOf senses numbers held
shape_held senses numbers p held is shape = record {
  positive = above_held p.den held.den is.den shape.positive;
  count = sym (count_held p.nums held.nums is.nums) ∙ shape.count;
  told = ap length (sym is.truths) ∙ shape.told;
}

-- a narrow point is held as itself
narrow_one : (z h : ℤ) → IsHeldAs z h → unsigned_abs z ≤ 2 ^ 126 → z ≡ h
narrow_one z h (inl e) small = e
narrow_one z h (inr both) small = let wide = wide_less z both.0 in absurd (omega (arith, wide, small))

narrow_all : (zs hs : List ℤ) → AreHeldAs zs hs → All (λ n. unsigned_abs n ≤ 2 ^ 126) zs → zs ≡ hs
narrow_all [] [] all small = refl
narrow_all [] (h ∷ hs) all small = absurd all
narrow_all (z ∷ zs) [] all small = absurd all
narrow_all (z ∷ zs) (h ∷ hs) all small =
    let first = narrow_one z h all.0 (All-head (λ n. unsigned_abs n ≤ 2 ^ 126) z zs small) in
    let rest = narrow_all zs hs all.1 (All-tail (λ n. unsigned_abs n ≤ 2 ^ 126) z zs small) in cc

made : (a a' : ℤ) (b c : List ℤ) (d e : List Bool) → a ≡ a' → b ≡ c → d ≡ e → ◌≡◌ {A = PointForm} (record { den = a; nums = b; truths = d }) (record { den = a'; nums = c; truths = e })
made a a' b c d e h f g = ap (λ (z : ℤ). record { den = z; nums = b; truths = d }) h ∙ ap (λ (x : List ℤ). record { den = a'; nums = x; truths = d }) f ∙ ap (λ (y : List Bool). record { den = a'; nums = c; truths = y }) g

narrow_same : (p held : PointForm) → IsHeldPoint p held → IsNarrowPoint p → p ≡ held
narrow_same p held is small = made p.den held.den p.nums held.nums p.truths held.truths (narrow_one p.den held.den is.den small.den) (narrow_all p.nums held.nums is.nums small.nums) is.truths

-- so what comes of both is the same
wide_held : (senses : List Sense) (numbers : ℕ) (p held : PointForm) → IsHeldPoint p held → IsTooWide senses numbers p → IsTooWide senses numbers held
wide_held senses numbers p held is wide = record { shape = shape_held senses numbers p held is wide.shape; pass = sym (pass_same p held senses is) ∙ wide.pass }

decisive_held : (facts : List Fact) (senses : List Sense) (numbers : ℕ) (p held : PointForm) → IsHeldPoint p held → IsDecisiveFor facts senses numbers p → IsDecisiveFor facts senses numbers held
decisive_held facts senses numbers p held is d = let P : PointForm → Type 0 = IsDecisiveFor facts senses numbers in subst P (narrow_same p held is d.narrow) d

pub alike : HeldPointsAreAlike
alike facts senses numbers p held is =
    let back = held_back p held is in
    ((wide_held senses numbers p held is, wide_held senses numbers held p back), (decisive_held facts senses numbers p held is, decisive_held facts senses numbers held p back))
