-- Paths in both orders, and what is assumed along them.
use Rattle.std.proofs.Common.{◌≡◌, ℕ, ◌+◌, ◌≤◌, ◌↔◌, ℤ, neg_ℤ, List, [], ◌∷◌, ◌++◌, map, take, reverse, Bool, IsTrue, IfOk, Result, refl, sym, ap, ◌∙◌, subst, arith, Contains, ⊎_elim}
use Rattle.std.proofs.lemmas.List.{reverse-append, take-take}
use Rattle.std.proofs.lemmas.List.Elements.{Contains-append_left, Contains-append_right, Contains-append_cases}
use Rattle.kat_clause.specs.Clauses.{Follows, opposites, AreAmong, SameMembers}
use Rattle.kat_clause.proofs.Laws.{among_push, follows_more as follows_sets_more}
use Rattle.kat_cases.specs.Nodes.{denies}
use Rattle.kat_cases.specs.Walks.{Shrinks}
use Rattle.kat_cases.specs.Walks.Shrinks.{done, left_out, kept}
use Rattle.kat_resolution.proofs.Members.{IsWithin, behind, cases_cons, in_nothing}
use Rattle.kat_cases.proofs.Members.{map_within, denies_more}

pub map-append : {A B : Type 0} (f : A → B) (xs ys : List A) → map f (xs ++ ys) ≡ map f xs ++ map f ys
map-append f [] ys = refl
map-append f (x ∷ xs) ys = ap (λ zs. f x ∷ zs) (map-append f xs ys)

pub reverse_cons : {A : Type 0} (x : A) (xs : List A) → reverse (x ∷ xs) ≡ reverse xs ++ x ∷ []
reverse_cons x xs = reverse-append (x ∷ []) xs

pub map-reverse : {A B : Type 0} (f : A → B) (xs : List A) → map f (reverse xs) ≡ reverse (map f xs)
map-reverse f [] = refl
map-reverse f (x ∷ xs) = ap (map f) (reverse_cons x xs) ∙ map-append f (reverse xs) (x ∷ []) ∙ ap (λ ys. ys ++ f x ∷ []) (map-reverse f xs) ∙ sym (reverse_cons (f x) (map f xs))

pub reverse-reverse : {A : Type 0} (xs : List A) → reverse (reverse xs) ≡ xs
reverse-reverse [] = refl
reverse-reverse (x ∷ xs) = ap reverse (reverse_cons x xs) ∙ reverse-append (reverse xs) (x ∷ []) ∙ ap (λ ys. x ∷ ys) (reverse-reverse xs)

pub in_reverse : {A : Type 0} (xs : List A) → IsWithin xs (reverse xs)
in_reverse [] y has = has
in_reverse {A} (x ∷ xs) y has = let P : List A → Type 0 = λ ys. Contains ys y in subst P (sym (reverse_cons x xs)) (⊎_elim
    (λ (e : x ≡ y). Contains-append_right (reverse xs) (x ∷ []) y (0, omega arith, e))
    (λ (later : Contains xs y). Contains-append_left (reverse xs) (x ∷ []) y (in_reverse xs y later))
    (cases_cons x y xs has))

pub from_reverse : {A : Type 0} (xs : List A) → IsWithin (reverse xs) xs
from_reverse [] y has = has
from_reverse {A} (x ∷ xs) y has = let P : List A → Type 0 = λ ys. Contains ys y in ⊎_elim
    (λ (h : Contains (reverse xs) y). behind x y xs (from_reverse xs y h))
    (λ (h : Contains (x ∷ []) y). ⊎_elim (λ (e : x ≡ y). (0, omega arith, e)) (λ (n : Contains [] y). absurd (in_nothing y n)) (cases_cons x y [] h))
    (Contains-append_cases (reverse xs) (x ∷ []) y (subst P (reverse_cons x xs) has))

around : (front stay : List ℤ) → IsWithin (front ++ stay) (reverse front ++ stay)
around front stay x has = ⊎_elim
    (λ (h : Contains front x). Contains-append_left (reverse front) stay x (in_reverse front x h))
    (λ (h : Contains stay x). Contains-append_right (reverse front) stay x h)
    (Contains-append_cases front stay x has)

around_back : (front stay : List ℤ) → IsWithin (reverse front ++ stay) (front ++ stay)
around_back front stay x has = ⊎_elim
    (λ (h : Contains (reverse front) x). Contains-append_left front stay x (from_reverse front x h))
    (λ (h : Contains stay x). Contains-append_right front stay x h)
    (Contains-append_cases (reverse front) stay x has)

-- what is falsified under the assumed literals and those that stay, said of the path
pub decided : (clauses F : List (List ℤ)) (front A stay : List ℤ) (b : Bool) → F ≡ clauses → A ≡ front → (IsTrue b → Follows F (opposites (A ++ stay))) × (Follows F (opposites (A ++ stay)) → IsTrue b)
    → (IsTrue b → denies clauses (reverse front ++ stay)) × (denies clauses (reverse front ++ stay) → IsTrue b)
decided clauses F front A stay b same at decides =
    let P : List (List ℤ) → Type 0 = λ G. (IsTrue b → Follows G (opposites (A ++ stay))) × (Follows G (opposites (A ++ stay)) → IsTrue b) in
    let Q : List ℤ → Type 0 = λ B. (IsTrue b → Follows clauses (opposites (B ++ stay))) × (Follows clauses (opposites (B ++ stay)) → IsTrue b) in
    let d = subst Q at (subst P same decides) in (
      λ is. denies_more clauses clauses (front ++ stay) (reverse front ++ stay) (λ c h. h) (around front stay) (d.0 is),
      λ h. d.1 (denies_more clauses clauses (reverse front ++ stay) (front ++ stay) (λ c k. k) (around_back front stay) h),
    )

-- a shorter prefix of two lists with the same prefix
pub front_same : (xs ys : List ℤ) (i n : ℕ) → n ≡ i + 1 → take n xs ≡ take n ys → take i xs ≡ take i ys
front_same xs ys i n e same =
    let less : i ≤ n = omega (arith, e) in
    sym (take-take i n xs less) ∙ ap (take i) same ∙ take-take i n ys less

-- what is propagated, said of the clauses and literals that were there before
pub told_of : {E : Type 0} (r : Result Bool E) (F G : List (List ℤ)) (A B : List ℤ) → F ≡ G → A ≡ B → IfOk r (λ b. IsTrue b ↔ Follows F (opposites A)) → IfOk r (λ b. IsTrue b ↔ Follows G (opposites B))
told_of r F G A B e f told =
    let P : List (List ℤ) → Type 0 = λ H. IfOk r (λ b. IsTrue b ↔ Follows H (opposites A)) in
    let Q : List ℤ → Type 0 = λ C. IfOk r (λ b. IsTrue b ↔ Follows G (opposites C)) in
    subst Q f (subst P e told)

-- a leaf's core is that of any clauses that are the same sets, and of the path in its order
pub follows_among : (clauses F : List (List ℤ)) (A B : List ℤ) → AreAmong clauses F → IsWithin A B → Follows clauses (opposites A) → Follows F (opposites B)
follows_among clauses F A B among within follows = follows_sets_more clauses F (opposites A) (opposites B) among (map_within neg_ℤ A B within) follows

pub shrinks_among : {clauses : List (List ℤ)} {rest stay core : List ℤ} → (F : List (List ℤ)) → AreAmong clauses F → AreAmong F clauses → Shrinks clauses rest stay core → Shrinks F rest stay core
shrinks_among F a b done = done
shrinks_among {clauses} F a b (left_out {rest = rest} {stay = stay} h more) = left_out (follows_among clauses F (rest ++ stay) (rest ++ stay) a (λ x k. k) h) (shrinks_among F a b more)
shrinks_among {clauses} F a b (kept {rest = rest} {stay = stay} h more) = kept (λ d. h (follows_among F clauses (rest ++ stay) (rest ++ stay) b (λ x k. k) d)) (shrinks_among F a b more)

pub shrinks_on : (clauses F : List (List ℤ)) (path back : List ℤ) (core : List ℤ) → AreAmong clauses F → AreAmong F clauses → path ≡ back → Shrinks clauses path [] core → Shrinks F back [] core
shrinks_on clauses F path back core a b e h = let P : List ℤ → Type 0 = λ p. Shrinks F p [] core in subst P e (shrinks_among F a b h)

-- a clause more, as a set
pub among_more : (F G : List (List ℤ)) (added clause : List ℤ) → SameMembers added clause → AreAmong F G → AreAmong (F ++ added ∷ []) (G ++ clause ∷ [])
among_more F G added clause same among = among_push F G added clause same among

pub back_same : (a b : List ℤ) (path : List ℤ) → reverse a ≡ path → reverse b ≡ path → a ≡ b
back_same a b path e f = sym (reverse-reverse a) ∙ ap reverse (e ∙ sym f) ∙ reverse-reverse b
