-- Members of lists of literals, and propagation by them.
use Rattle.std.proofs.Common.{◌≡◌, zero, suc, ℤ, neg_ℤ, List, [], ◌∷◌, map, ◌⊎◌, inl, inr, ⊎_elim, refl, sym, ap, ◌∙◌, subst, arith, Contains}
use Rattle.std.proofs.Math.IntN.{neg_ℤ-neg_ℤ}
use Rattle.kat_clause.specs.Clauses.{Derived, Follows}
use Rattle.kat_clause.specs.Clauses.Derived.{denied, forced}
use Rattle.kat_walks.specs.Walks.{IsClosed}

-- each member of the one is a member of the other
abbrev pub IsWithin : {A : Type 0} → List A → List A → Type 0
IsWithin {A} xs ys = (x : A) → Contains xs x → Contains ys x

pub here : {A : Type 0} (x : A) (xs : List A) → Contains (x ∷ xs) x
here x xs = (0, omega arith, refl)

pub behind : {A : Type 0} (x y : A) (xs : List A) → Contains xs y → Contains (x ∷ xs) y
behind x y xs has = (suc has.0, omega (arith, has.1), has.2)

pub cases_cons : {A : Type 0} (x y : A) (xs : List A) → Contains (x ∷ xs) y → (x ≡ y) ⊎ Contains xs y
cases_cons x y xs (zero, h, is) = inl is
cases_cons x y xs (suc j, h, is) = inr (j, omega arith, is)

pub in_nothing : {A : Type 0} (y : A) → Contains [] y → ⊥
in_nothing y has = omega (arith, has.1)

pub in_map : {A B : Type 0} (f : A → B) (xs : List A) (x : A) → Contains xs x → Contains (map f xs) (f x)
in_map f [] x has = absurd (in_nothing x has)
in_map f (y ∷ ys) x has = ⊎_elim
    (λ (e : y ≡ x). (0, omega arith, ap f e))
    (λ (later : Contains ys x). behind (f y) (f x) (map f ys) (in_map f ys x later))
    (cases_cons y x ys has)

pub from_map : {A B : Type 0} (f : A → B) (xs : List A) (y : B) → Contains (map f xs) y → (x : A) × Contains xs x × (f x ≡ y)
from_map f [] y has = absurd (in_nothing y has)
from_map f (x ∷ xs) y has = ⊎_elim
    (λ (e : f x ≡ y). (x, here x xs, e))
    (λ (later : Contains (map f xs) y). let r = from_map f xs y later in (r.0, behind x r.0 xs r.1, r.2))
    (cases_cons (f x) y (map f xs) has)

-- the opposites' opposites
pub opposites_back : (c : List ℤ) (x : ℤ) → Contains (map neg_ℤ c) x → Contains c (neg_ℤ x)
opposites_back c x has =
    let r = from_map neg_ℤ c x has in
    let P : ℤ → Type 0 = Contains c in
    subst P (sym (neg_ℤ-neg_ℤ r.0) ∙ ap neg_ℤ r.2) r.1

-- more clauses and a longer line derive more
pub derived_more : (few many : List (List ℤ)) (short long : List ℤ) → IsWithin few many → IsWithin short long → (m : ℤ) → Derived few short m → Derived many long m
derived_more few many short long clauses line m (denied _ l has e) = denied m l (line l has) e
derived_more few many short long clauses line m (forced _ clause among has others) =
    forced m clause (clauses clause among) has (λ k in' ne. derived_more few many short long clauses line (neg_ℤ k) (others k in' ne))

pub follows_more : (few many : List (List ℤ)) (short long : List ℤ) → IsWithin few many → IsWithin short long → Follows few short → Follows many long
follows_more few many short long clauses line (clause, among, all) =
    (clause, clauses clause among, λ k in'. derived_more few many short long clauses line (neg_ℤ k) (all k in'))

pub map_within : {A B : Type 0} (f : A → B) (xs ys : List A) → IsWithin xs ys → IsWithin (map f xs) (map f ys)
map_within {A} {B} f xs ys within y has =
    let r = from_map f xs y has in
    let P : B → Type 0 = Contains (map f ys) in
    subst P r.2 (in_map f ys r.0 (within r.0 r.1))

pub closed_more : (few many : List (List ℤ)) (short long : List ℤ) → IsWithin few many → IsWithin short long → IsClosed few short → IsClosed many long
closed_more few many short long clauses line = follows_more few many (map neg_ℤ short) (map neg_ℤ long) clauses (map_within neg_ℤ short long line)
