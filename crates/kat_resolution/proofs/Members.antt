-- Members of lists, and of what filters make of them.
use Rattle.std.proofs.Common.{◌≡◌, zero, suc, ℤ, List, [], ◌∷◌, filter, Bool, true, false, if◌then◌else◌, ◌⊎◌, inl, inr, ⊎_elim, refl, ap, ◌∙◌, arith, Contains}
use Rattle.std.proofs.lemmas.Bool.{false≢true}

-- each member of the one is a member of the other
abbrev pub IsWithin : {A : Type 0} → List A → List A → Type 0
IsWithin {A} xs ys = (x : A) → Contains xs x → Contains ys x

pub here : {A : Type 0} (x : A) (xs : List A) → Contains (x ∷ xs) x
here x xs = (0, omega arith, refl)

pub behind : {A : Type 0} (x y : A) (xs : List A) → Contains xs y → Contains (x ∷ xs) y
behind x y xs has = (suc has.0, omega (arith, has.1), has.2)

pub cases_cons : {A : Type 0} (x y : A) (xs : List A) → Contains (x ∷ xs) y → (x ≡ y) ⊎ Contains xs y
cases_cons x y xs (zero, h, is) = inl is
cases_cons x y xs (suc j, h, is) = inr (j, omega arith, is)

pub in_nothing : {A : Type 0} (y : A) → Contains [] y → ⊥
in_nothing y has = omega (arith, has.1)

-- a filter keeps what passes, and nothing else
filter_pick : (b : Bool) (p x : ℤ) (rest : List ℤ) → (p ≡ x → b ≡ true) → (p ≡ x) ⊎ Contains rest x → Contains (if b then p ∷ rest else rest) x
filter_pick true p x rest f (inl e) = (0, omega arith, e)
filter_pick true p x rest f (inr h) = behind p x rest h
filter_pick false p x rest f (inl e) = absurd (false≢true (f e))
filter_pick false p x rest f (inr h) = h

pub filter_has : (test : ℤ → Bool) (path : List ℤ) (x : ℤ) → Contains path x → test x ≡ true → Contains (filter test path) x
filter_has test [] x has e = has
filter_has test (p ∷ ps) x has e = filter_pick (test p) p x (filter test ps) (λ f. ap test f ∙ e)
    (⊎_elim inl (λ (h : Contains ps x). inr (filter_has test ps x h e)) (cases_cons p x ps has))

filter_unpick : (b : Bool) (p x : ℤ) (rest : List ℤ) → Contains (if b then p ∷ rest else rest) x → (p ≡ x) ⊎ Contains rest x
filter_unpick true p x rest h = cases_cons p x rest h
filter_unpick false p x rest h = inr h

pub filter_within : (test : ℤ → Bool) (path : List ℤ) → IsWithin (filter test path) path
filter_within test [] x has = has
filter_within test (p ∷ ps) x has = ⊎_elim
    (λ (e : p ≡ x). (0, omega arith, e))
    (λ (h : Contains (filter test ps) x). behind p x ps (filter_within test ps x h))
    (filter_unpick (test p) p x (filter test ps) has)
