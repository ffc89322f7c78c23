-- Lists in the strict order of a comparison.
use Rattle.std.proofs.Common.{◌≡◌, ℕ, zero, suc, ◌<◌, ◌⊎◌, inl, inr, ⊎_elim, List, [], ◌∷◌, length, get_or, arith, refl, sym, ◌∙◌, ap, subst, Ordering}
use Rattle.std.specs.Cmp.{IsTotalOrder}
use Rattle.std.specs.List.{All, AllPairs}
use Rattle.std.specs.Ordering.{ordering_reverse}
use Rattle.std.specs.declared.cmp.Ordering.TheVariants.{Less, Equal, Greater}
use Rattle.std.proofs.lemmas.Cmp.{tied_itself}
use Rattle.std.proofs.lemmas.List.Elements.{All-cons, All-nil}
use Rattle.std.proofs.lemmas.List.Kept.{AllPairs-cons}
use Rattle.kat_type.specs.InOrder.{in_order, put_at, put_in}
use Rattle.kat_type.specs.Lists.{Has, HaveSame, IsOnce}

-- each is strictly before all later ones
abbrev pub Ascends : {X : Type 0} → (X → X → Ordering) → List X → Type 0
Ascends {X} R [] = Unit {0}
Ascends {X} R (x ∷ xs) = ((y : X) → Has xs y → R x y ≡ Less) × Ascends R xs

pub all_had : {X : Type 0} (P : X → Type 0) (xs : List X) → ((x : X) → Has xs x → P x) → All P xs
all_had P [] h = All-nil P
all_had P (x ∷ xs) h = All-cons P x xs (h x (inl refl)) (all_had P xs (λ y k. h y (inr k)))

pub had_all : {X : Type 0} (P : X → Type 0) (xs : List X) (x d : X) → ((k : ℕ) → k < length xs → P (get_or xs k d)) → Has xs x → P x
had_all P [] x d h has = absurd has
had_all P (y ∷ xs) x d h (inl e) = subst P e (h zero (omega arith))
had_all P (y ∷ xs) x d h (inr has) = had_all P xs x d (λ k lt. h (suc k) (omega (arith, lt))) has

pub pairs_ascend : {X : Type 0} (R : X → X → Ordering) (xs : List X) → AllPairs (λ x y. R x y ≡ Less) xs → Ascends R xs
pairs_ascend R [] h = tt
pairs_ascend {X} R (x ∷ xs) h = (
  λ y has. had_all (λ z. R x z ≡ Less) xs y x (λ k lt. h zero (suc k) x (omega arith) (omega (arith, lt))) has,
  pairs_ascend R xs (λ i j d lt le. h (suc i) (suc j) d (omega (arith, lt)) (omega (arith, le))),
)

nothing_below : (j : ℕ) → j < 0 → ⊥
nothing_below j h = omega (arith, h)

pub ascends_pairs : {X : Type 0} (R : X → X → Ordering) (xs : List X) → Ascends R xs → AllPairs (λ x y. R x y ≡ Less) xs
ascends_pairs R [] h = λ i j d lt le. absurd (nothing_below j le)
ascends_pairs R (x ∷ xs) h = AllPairs-cons (λ x y. R x y ≡ Less) x xs (all_had (λ y. R x y ≡ Less) xs h.0) (ascends_pairs R xs h.1)

pub not_itself : {X : Type 0} (R : X → X → Ordering) → IsTotalOrder R → (x y : X) → R x y ≡ Less → x ≡ y → ⊥
not_itself R o x y less e = cc (less, e, tied_itself o x)

pub not_both : {X : Type 0} (R : X → X → Ordering) → IsTotalOrder R → (x y : X) → R x y ≡ Less → R y x ≡ Less → ⊥
not_both R o x y less back =
    let e : Less ≡ ordering_reverse Less = sym less ∙ o.antisymm x y ∙ ap ordering_reverse back in
    cc e

pub ascends_once : {X : Type 0} (R : X → X → Ordering) → IsTotalOrder R → (xs : List X) → Ascends R xs → IsOnce xs
ascends_once R o [] h = tt
ascends_once R o (x ∷ xs) h = (λ has. not_itself R o x x (h.0 x has) refl, ascends_once R o xs h.1)

-- the first of two ascending lists with the same elements is the same
pub same_first : {X : Type 0} (R : X → X → Ordering) → IsTotalOrder R → (x y : X) (xs ys : List X) → Ascends R (x ∷ xs) → Ascends R (y ∷ ys)
    → Has (y ∷ ys) x → Has (x ∷ xs) y → x ≡ y
same_first R o x y xs ys h k (inl e) b = sym e
same_first R o x y xs ys h k (inr i) (inl e) = e
same_first R o x y xs ys h k (inr i) (inr j) = absurd (not_both R o x y (h.0 y j) (k.0 x i))

pub among_rest : {X : Type 0} (R : X → X → Ordering) → IsTotalOrder R → (x y : X) (xs ys : List X) → Ascends R (x ∷ xs) → x ≡ y
    → (z : X) → Has xs z → Has (y ∷ ys) z → Has ys z
among_rest R o x y xs ys h e z i (inl k) = absurd (not_itself R o x z (h.0 z i) (e ∙ k))
among_rest R o x y xs ys h e z i (inr k) = k

pub one_ascending : {X : Type 0} (R : X → X → Ordering) → IsTotalOrder R → (xs ys : List X) → Ascends R xs → Ascends R ys → HaveSame xs ys → xs ≡ ys
one_ascending R o [] [] h k same = refl
one_ascending R o [] (y ∷ ys) h k same = absurd (same.1 y (inl refl))
one_ascending R o (x ∷ xs) [] h k same = absurd (same.0 x (inl refl))
one_ascending R o (x ∷ xs) (y ∷ ys) h k same =
    let e : x ≡ y = same_first R o x y xs ys h k (same.0 x (inl refl)) (same.1 y (inl refl)) in
    let rest : xs ≡ ys = one_ascending R o xs ys h.1 k.1 (
      λ z i. among_rest R o x y xs ys h e z i (same.0 z (inr i)),
      λ z i. among_rest R o y x ys xs k (sym e) z i (same.1 z (inr i)),
    ) in
    ap (λ z. z ∷ xs) e ∙ ap (λ zs. y ∷ zs) rest

pub at_only : {X : Type 0} (r : Ordering) (x y z : X) (ys rest : List X) → (Has rest z → (x ≡ z) ⊎ Has ys z) → Has (put_at r x y ys rest) z → (x ≡ z) ⊎ Has (y ∷ ys) z
at_only Less x y z ys rest h has = has
at_only Equal x y z ys rest h has = inr has
at_only Greater x y z ys rest h (inl e) = inr (inl e)
at_only Greater x y z ys rest h (inr has) = ⊎_elim (λ e. inl e) (λ k. inr (inr k)) (h has)

pub put_only : {X : Type 0} (R : X → X → Ordering) (x z : X) (ys : List X) → Has (put_in R x ys) z → (x ≡ z) ⊎ Has ys z
put_only R x z [] has = has
put_only R x z (y ∷ ys) has = at_only (R x y) x y z ys (put_in R x ys) (put_only R x z ys) has

pub at_keeps : {X : Type 0} (r : Ordering) (x y z : X) (ys rest : List X) → (Has ys z → Has rest z) → Has (y ∷ ys) z → Has (put_at r x y ys rest) z
at_keeps Less x y z ys rest h has = inr has
at_keeps Equal x y z ys rest h has = has
at_keeps Greater x y z ys rest h (inl e) = inl e
at_keeps Greater x y z ys rest h (inr has) = inr (h has)

pub put_keeps : {X : Type 0} (R : X → X → Ordering) (x z : X) (ys : List X) → Has ys z → Has (put_in R x ys) z
put_keeps R x z [] has = absurd has
put_keeps R x z (y ∷ ys) has = at_keeps (R x y) x y z ys (put_in R x ys) (put_keeps R x z ys) has

pub at_new : {X : Type 0} (r : Ordering) (x y : X) (ys rest : List X) → (r ≡ Equal → x ≡ y) → Has rest x → Has (put_at r x y ys rest) x
at_new Less x y ys rest same has = inl refl
at_new Equal x y ys rest same has = inl (sym (same refl))
at_new Greater x y ys rest same has = inr has

pub put_new : {X : Type 0} (R : X → X → Ordering) (x : X) (ys : List X) → ((y : X) → Has ys y → R x y ≡ Equal → x ≡ y) → Has (put_in R x ys) x
put_new R x [] apart = inl refl
put_new R x (y ∷ ys) apart = at_new (R x y) x y ys (put_in R x ys) (apart y (inl refl)) (put_new R x ys (λ z k. apart z (inr k)))

pub turned : {X : Type 0} (R : X → X → Ordering) → IsTotalOrder R → (x y : X) → R x y ≡ Greater → R y x ≡ Less
turned R o x y greater = o.antisymm y x ∙ ap ordering_reverse greater

pub at_ascends : {X : Type 0} (R : X → X → Ordering) → IsTotalOrder R → (r : Ordering) (x y : X) (ys rest : List X) → R x y ≡ r → Ascends R (y ∷ ys) → Ascends R rest
    → ((z : X) → Has rest z → (x ≡ z) ⊎ Has ys z) → Ascends R (put_at r x y ys rest)
at_ascends R o Less x y ys rest is h k only = (
  λ z has. ⊎_elim (λ (e : y ≡ z). subst (λ w. R x w ≡ Less) e is) (λ i. o.trans x y z is (h.0 z i)) has,
  h,
)
at_ascends R o Equal x y ys rest is h k only = h
at_ascends R o Greater x y ys rest is h k only = (
  λ z has. ⊎_elim (λ (e : x ≡ z). subst (λ w. R y w ≡ Less) e (turned R o x y is)) (λ i. h.0 z i) (only z has),
  k,
)

pub put_ascends : {X : Type 0} (R : X → X → Ordering) → IsTotalOrder R → (x : X) (ys : List X) → Ascends R ys → Ascends R (put_in R x ys)
put_ascends R o x [] h = (λ z has. absurd has, tt)
put_ascends R o x (y ∷ ys) h = at_ascends R o (R x y) x y ys (put_in R x ys) refl h (put_ascends R o x ys h.1) (λ z. put_only R x z ys)

pub order_ascends : {X : Type 0} (R : X → X → Ordering) → IsTotalOrder R → (xs : List X) → Ascends R (in_order R xs)
order_ascends R o [] = tt
order_ascends R o (x ∷ xs) = put_ascends R o x (in_order R xs) (order_ascends R o xs)

pub order_only : {X : Type 0} (R : X → X → Ordering) (xs : List X) (z : X) → Has (in_order R xs) z → Has xs z
order_only R [] z has = has
order_only R (x ∷ xs) z has = ⊎_elim (λ e. inl e) (λ k. inr (order_only R xs z k)) (put_only R x z (in_order R xs) has)

pub order_has : {X : Type 0} (R : X → X → Ordering) (xs : List X) → ((x y : X) → Has xs x → Has xs y → R x y ≡ Equal → x ≡ y) → (z : X) → Has xs z → Has (in_order R xs) z
order_has R [] apart z has = has
order_has R (x ∷ xs) apart z (inl e) = subst (λ w. Has (put_in R x (in_order R xs)) w) e (put_new R x (in_order R xs) (λ y k. apart x y (inl refl) (inr (order_only R xs y k))))
order_has R (x ∷ xs) apart z (inr k) = put_keeps R x z (in_order R xs) (order_has R xs (λ a b i j. apart a b (inr i) (inr j)) z k)
