-- What a sort of a list leaves, if the list has each element once.
use Rattle.std.proofs.Common.{◌≡◌, ◌≢◌, ℕ, zero, suc, ◌<◌, ◌⊎◌, inl, inr, ⊎_elim, List, [], ◌∷◌, length, get_or, arith, refl, sym, ◌∙◌, ap, subst, Ordering, true, false}
use Rattle.std.specs.Cmp.{IsTotalOrder}
use Rattle.std.specs.List.{AllPairs, Contains, swap}
use Rattle.std.specs.List.Sorted.{IsPermutation, IsSorted}
use Rattle.std.specs.Ordering.{is_lt}
use Rattle.std.specs.declared.cmp.Ordering.TheVariants.{Less, Equal, Greater}
use Rattle.std.proofs.lemmas.Bool.{cases_eq}
use Rattle.std.proofs.lemmas.List.Edits.{Swapped, length-swap, swapped_from_swap}
use Rattle.std.proofs.lemmas.List.Sorted.{Contains-permutation, IsPermutation-keeps, IsPermutation-sym, ranks_by, sorted_far}
use Rattle.kat_type.specs.Lists.{Has, HaveSame, IsOnce}
use Rattle.kat_type.proofs.Ordered.{turned}

pub had : {X : Type 0} (xs : List X) (k : ℕ) (d : X) → k < length xs → Has xs (get_or xs k d)
had [] k d lt = absurd (below_none k lt) where
  below_none : (k : ℕ) → k < 0 → ⊥
  below_none k h = omega (arith, h)
had (x ∷ xs) zero d lt = inl refl
had (x ∷ xs) (suc k) d lt = inr (had xs k d (omega (arith, lt)))

pub has_contained : {X : Type 0} (xs : List X) (x : X) → Contains xs x → Has xs x
has_contained xs x (k, lt, is) = subst (λ y. Has xs y) is (had xs k x lt)

pub contains_had : {X : Type 0} (xs : List X) (x : X) → Has xs x → Contains xs x
contains_had [] x has = absurd has
contains_had (y ∷ xs) x (inl e) = (zero, omega arith, e)
contains_had (y ∷ xs) x (inr has) = let there = contains_had xs x has in (suc there.0, omega (arith, there.1), there.2)

-- different places have different elements
abbrev pub IsDistinct : {X : Type 0} → List X → Type 0
IsDistinct {X} xs = (i j : ℕ) (d : X) → i < length xs → j < length xs → get_or xs i d ≡ get_or xs j d → i ≡ j

pub once_distinct : {X : Type 0} (xs : List X) → IsOnce xs → IsDistinct xs
once_distinct [] once i j d lt le e = omega (arith, lt)
once_distinct (x ∷ xs) once zero zero d lt le e = refl
once_distinct (x ∷ xs) once zero (suc j) d lt le e = absurd (once.0 (subst (λ y. Has xs y) (sym e) (had xs j d (omega (arith, le)))))
once_distinct (x ∷ xs) once (suc i) zero d lt le e = absurd (once.0 (subst (λ y. Has xs y) e (had xs i d (omega (arith, lt)))))
once_distinct (x ∷ xs) once (suc i) (suc j) d lt le e = ap suc (once_distinct xs once.1 i j d (omega (arith, lt)) (omega (arith, le)) e)

-- the place at which a swap of a and b finds what is then at i
abbrev pub IsPlace : ℕ → ℕ → ℕ → ℕ → Type 0
IsPlace a b i k = ((i ≡ a) × (k ≡ b)) ⊎ ((i ≡ b) × (k ≡ a)) ⊎ ((i ≢ a) × (i ≢ b) × (k ≡ i))

pub place_back : (a b i j k : ℕ) → IsPlace a b i k → IsPlace a b j k → i ≡ j
place_back a b i j k (inl p) (inl q) = p.0 ∙ sym q.0
place_back a b i j k (inl p) (inr (inl q)) = p.0 ∙ sym q.1 ∙ p.1 ∙ sym q.0
place_back a b i j k (inl p) (inr (inr q)) = absurd (q.1 (sym q.2 ∙ p.1))
place_back a b i j k (inr (inl p)) (inl q) = p.0 ∙ sym q.1 ∙ p.1 ∙ sym q.0
place_back a b i j k (inr (inl p)) (inr (inl q)) = p.0 ∙ sym q.0
place_back a b i j k (inr (inl p)) (inr (inr q)) = absurd (q.0 (sym q.2 ∙ p.1))
place_back a b i j k (inr (inr p)) (inl q) = absurd (p.1 (sym p.2 ∙ q.1))
place_back a b i j k (inr (inr p)) (inr (inl q)) = absurd (p.0 (sym p.2 ∙ q.1))
place_back a b i j k (inr (inr p)) (inr (inr q)) = sym p.2 ∙ q.2

pub place_within : (a b i k n : ℕ) → a < n → b < n → i < n → IsPlace a b i k → k < n
place_within a b i k n la lb li (inl p) = subst (λ m. m < n) (sym p.1) lb
place_within a b i k n la lb li (inr (inl p)) = subst (λ m. m < n) (sym p.1) la
place_within a b i k n la lb li (inr (inr p)) = subst (λ m. m < n) (sym p.2) li

pub moved : {X : Type 0} (f g : ℕ → X) (a b i : ℕ) → Swapped f g a b → (k : ℕ) × IsPlace a b i k × (g i ≡ f k)
moved f g a b i s =
    ⊎_elim (λ (e : i ≡ a). (b, inl (e, refl), ap g e ∙ s.0))
    (λ (n : i ≢ a). ⊎_elim (λ (e : i ≡ b). (a, inr (inl (e, refl)), ap g e ∙ s.1)) (λ (m : i ≢ b). (i, inr (inr (n, m, refl)), s.2 i n m)) (cases_eq i b))
    (cases_eq i a)

pub swap_distinct : {X : Type 0} (xs : List X) (a b : ℕ) → a < length xs → b < length xs → IsDistinct xs → IsDistinct (swap xs a b)
swap_distinct {X} xs a b la lb distinct i j d lt le e =
    let s : Swapped (λ k. get_or xs k d) (λ k. get_or (swap xs a b) k d) a b = swapped_from_swap xs (swap xs a b) a b d la lb refl in
    let p = moved (λ k. get_or xs k d) (λ k. get_or (swap xs a b) k d) a b i s in
    let q = moved (λ k. get_or xs k d) (λ k. get_or (swap xs a b) k d) a b j s in
    let n : length (swap xs a b) ≡ length xs = length-swap xs a b in
    let same : p.0 ≡ q.0 = distinct p.0 q.0 d (place_within a b i p.0 (length xs) la lb (subst (λ m. i < m) n lt) p.1) (place_within a b j q.0 (length xs) la lb (subst (λ m. j < m) n le) q.1)
    (sym p.2 ∙ e ∙ q.2) in
    place_back a b i j q.0 (subst (λ k. IsPlace a b i k) same p.1) q.1

pub permuted_distinct : {X : Type 0} (xs ys : List X) → IsPermutation xs ys → IsOnce xs → IsDistinct ys
permuted_distinct xs ys p once = IsPermutation-keeps xs IsDistinct (once_distinct xs once) (λ l a b la lb h. swap_distinct l a b la lb h) ys p

pub have_same : {X : Type 0} (xs ys : List X) → IsPermutation xs ys → HaveSame ys xs
have_same xs ys p = (
  λ x has. has_contained xs x (Contains-permutation ys xs x (IsPermutation-sym xs ys p) (contains_had ys x has)),
  λ x has. has_contained ys x (Contains-permutation xs ys x p (contains_had xs x has)),
)

-- of two different elements in order, the first is strictly before the other
pub strictly : {X : Type 0} (R : X → X → Ordering) → IsTotalOrder R → (r : Ordering) (x y : X) → R x y ≡ r → is_lt (R y x) ≡ false → (R x y ≡ Equal → ⊥) → R x y ≡ Less
strictly R o Less x y is not apart = is
strictly R o Equal x y is not apart = absurd (apart is)
strictly R o Greater x y is not apart = absurd (let e : true ≡ false = sym (ap is_lt (turned R o x y is)) ∙ not in cc e)

pub sorted_pairs : {X : Type 0} (R : X → X → Ordering) → IsTotalOrder R → (xs ys : List X) → IsOnce xs → ((x y : X) → Has xs x → Has xs y → R x y ≡ Equal → x ≡ y)
    → IsPermutation xs ys → IsSorted R ys → AllPairs (λ x y. R x y ≡ Less) ys
sorted_pairs {X} R o xs ys once apart p sorted = λ i j d lt le.
    let same = have_same xs ys p in
    let here : Has ys (get_or ys i d) = had ys i d (omega (arith, lt, le)) in
    let there : Has ys (get_or ys j d) = had ys j d le in
    strictly R o (R (get_or ys i d) (get_or ys j d)) (get_or ys i d) (get_or ys j d) refl
    (sorted_far (λ x y. is_lt (R x y)) (ranks_by o (λ (x : X). x)) ys sorted i j d (omega (arith, lt)) le)
    (λ e. let k : i ≡ j = permuted_distinct xs ys p once i j d (omega (arith, lt, le)) le
    (apart (get_or ys i d) (get_or ys j d) (same.0 (get_or ys i d) here) (same.0 (get_or ys j d) there) e) in omega (arith, k, lt))
