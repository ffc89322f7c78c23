-- Members of mapped lists and of cores, and propagation by more clauses or literals.
use Rattle.std.proofs.Common.{◌≡◌, ℤ, pos, neg_ℤ, List, [], ◌∷◌, map, Bool, true, false, if◌then◌else◌, ◌||◌, int_le, ◌⊎◌, inl, inr, ⊎_elim, refl, sym, ap, ◌∙◌, subst, arith, Contains, unsigned_abs}
use Rattle.std.proofs.Math.IntN.{neg_ℤ-neg_ℤ}
use Rattle.std.proofs.lemmas.Bool.{false≢true}
use Rattle.std.specs.Ordering.{int_eq}
use Rattle.std.proofs.lemmas.Bool.Decides.{Decides-int_eq}
use Rattle.kat_clause.specs.Clauses.{Derived, Follows}
use Rattle.kat_clause.specs.Clauses.Derived.{denied, forced}
use Rattle.kat_resolution.proofs.Members.{IsWithin, here, behind, cases_cons, in_nothing, filter_has}
use Rattle.kat_cases.specs.Nodes.{denies}
use Rattle.kat_cases.specs.Walks.{put, ascending, has_literal, joined}

pub in_map : {A B : Type 0} (f : A → B) (xs : List A) (x : A) → Contains xs x → Contains (map f xs) (f x)
in_map f [] x has = absurd (in_nothing x has)
in_map f (y ∷ ys) x has = ⊎_elim
    (λ (e : y ≡ x). (0, omega arith, ap f e))
    (λ (later : Contains ys x). behind (f y) (f x) (map f ys) (in_map f ys x later))
    (cases_cons y x ys has)

pub from_map : {A B : Type 0} (f : A → B) (xs : List A) (y : B) → Contains (map f xs) y → (x : A) × Contains xs x × (f x ≡ y)
from_map f [] y has = absurd (in_nothing y has)
from_map f (x ∷ xs) y has = ⊎_elim
    (λ (e : f x ≡ y). (x, here x xs, e))
    (λ (later : Contains (map f xs) y). let r = from_map f xs y later in (r.0, behind x r.0 xs r.1, r.2))
    (cases_cons (f x) y (map f xs) has)

pub map_within : {A B : Type 0} (f : A → B) (xs ys : List A) → IsWithin xs ys → IsWithin (map f xs) (map f ys)
map_within {A} {B} f xs ys within y has =
    let r = from_map f xs y has in
    let P : B → Type 0 = Contains (map f ys) in
    subst P r.2 (in_map f ys r.0 (within r.0 r.1))

-- putting in, by where it goes
put_pick : (b : Bool) (k l x : ℤ) (ls rest : List ℤ) → ((k ≡ x) ⊎ Contains ls x → Contains rest x) → (k ≡ x) ⊎ Contains (l ∷ ls) x → Contains (if b then k ∷ l ∷ ls else l ∷ rest) x
put_pick true k l x ls rest on (inl e) = (0, omega arith, e)
put_pick true k l x ls rest on (inr has) = behind k x (l ∷ ls) has
put_pick false k l x ls rest on (inl e) = behind l x rest (on (inl e))
put_pick false k l x ls rest on (inr has) = ⊎_elim (λ (e : l ≡ x). here_at l x rest e) (λ (later : Contains ls x). behind l x rest (on (inr later))) (cases_cons l x ls has)
  where
    here_at : (a b : ℤ) (xs : List ℤ) → a ≡ b → Contains (a ∷ xs) b
    here_at a b xs e = (0, omega arith, e)

pub put_has : (k : ℤ) (ls : List ℤ) (x : ℤ) → (k ≡ x) ⊎ Contains ls x → Contains (put k ls) x
put_has k [] x (inl e) = (0, omega arith, e)
put_has k [] x (inr has) = absurd (in_nothing x has)
put_has k (l ∷ ls) x h = put_pick (int_le (pos (unsigned_abs k)) (pos (unsigned_abs l))) k l x ls (put k ls) (put_has k ls x) h

put_unpick : (b : Bool) (k l x : ℤ) (ls rest : List ℤ) → (Contains rest x → (k ≡ x) ⊎ Contains ls x) → Contains (if b then k ∷ l ∷ ls else l ∷ rest) x → (k ≡ x) ⊎ Contains (l ∷ ls) x
put_unpick true k l x ls rest back has = cases_cons k x (l ∷ ls) has
put_unpick false k l x ls rest back has = ⊎_elim
    (λ (e : l ≡ x). inr (0, omega arith, e))
    (λ (later : Contains rest x). ⊎_elim inl (λ (h : Contains ls x). inr (behind l x ls h)) (back later))
    (cases_cons l x rest has)

pub put_from : (k : ℤ) (ls : List ℤ) (x : ℤ) → Contains (put k ls) x → (k ≡ x) ⊎ Contains ls x
put_from k [] x has = cases_cons k x [] has
put_from k (l ∷ ls) x has = put_unpick (int_le (pos (unsigned_abs k)) (pos (unsigned_abs l))) k l x ls (put k ls) (put_from k ls x) has

pub ascending_has : (ks : List ℤ) → IsWithin ks (ascending ks)
ascending_has [] x has = has
ascending_has (k ∷ ks) x has = put_has k (ascending ks) x (⊎_elim inl (λ (h : Contains ks x). inr (ascending_has ks x h)) (cases_cons k x ks has))

pub ascending_from : (ks : List ℤ) → IsWithin (ascending ks) ks
ascending_from [] x has = has
ascending_from (k ∷ ks) x has = ⊎_elim
    (λ (e : k ≡ x). (0, omega arith, e))
    (λ (h : Contains (ascending ks) x). behind k x ks (ascending_from ks x h))
    (put_from k (ascending ks) x has)

-- the opposites' opposites
pub opposites_back : (c : List ℤ) (x : ℤ) → Contains (map neg_ℤ c) x → Contains c (neg_ℤ x)
opposites_back c x has =
    let r = from_map neg_ℤ c x has in
    let P : ℤ → Type 0 = Contains c in
    subst P (sym (neg_ℤ-neg_ℤ r.0) ∙ ap neg_ℤ r.2) r.1

-- more clauses and a longer line derive more
pub derived_more : (few many : List (List ℤ)) (short long : List ℤ) → IsWithin few many → IsWithin short long → (m : ℤ) → Derived few short m → Derived many long m
derived_more few many short long clauses line m (denied _ l has e) = denied m l (line l has) e
derived_more few many short long clauses line m (forced _ clause among has others) =
    forced m clause (clauses clause among) has (λ k in' ne. derived_more few many short long clauses line (neg_ℤ k) (others k in' ne))

pub follows_more : (few many : List (List ℤ)) (short long : List ℤ) → IsWithin few many → IsWithin short long → Follows few short → Follows many long
follows_more few many short long clauses line (clause, among, all) =
    (clause, clauses clause among, λ k in'. derived_more few many short long clauses line (neg_ℤ k) (all k in'))

pub denies_more : (few many : List (List ℤ)) (short long : List ℤ) → IsWithin few many → IsWithin short long → denies few short → denies many long
denies_more few many short long clauses line = follows_more few many (map neg_ℤ short) (map neg_ℤ long) clauses (map_within neg_ℤ short long line)

same_int : (k l : ℤ) → int_eq l k ≡ true → k ≡ l
same_int k l e = sym ((Decides-int_eq l k).0 e)

has_pick : (a b : Bool) (k l : ℤ) (ls : List ℤ) → (a ≡ true → k ≡ l) → (b ≡ true → Contains ls k) → (a || b) ≡ true → Contains (l ∷ ls) k
has_pick true b k l ls f g h = (0, omega arith, sym (f refl))
has_pick false true k l ls f g h = behind l k ls (g refl)
has_pick false false k l ls f g h = absurd (false≢true h)

pub has_in : (k : ℤ) (ls : List ℤ) → has_literal k ls ≡ true → Contains ls k
has_in k [] e = absurd (false≢true e)
has_in k (l ∷ ls) e = has_pick (int_eq l k) (has_literal k ls) k l ls (same_int k l) (has_in k ls) e

same_test : (k : ℤ) → int_eq k k ≡ true
same_test k = (Decides-int_eq k k).1 refl

or_true : (a b : Bool) → a ≡ true → (a || b) ≡ true
or_true a b e = rw e refl

true_or : (a b : Bool) → b ≡ true → (a || b) ≡ true
true_or true b e = refl
true_or false b e = e

pub in_has : (k : ℤ) (ls : List ℤ) → Contains ls k → has_literal k ls ≡ true
in_has k [] has = absurd (in_nothing k has)
in_has k (l ∷ ls) has = ⊎_elim
    (λ (e : l ≡ k). or_true (int_eq l k) (has_literal k ls) (rw e (same_test k)))
    (λ (later : Contains ls k). true_or (int_eq l k) (has_literal k ls) (in_has k ls later))
    (cases_cons l k ls has)

pub joined_first : (path c d : List ℤ) (x : ℤ) → Contains path x → Contains c x → Contains (joined path c d) x
joined_first path c d x on has = filter_has (λ k. has_literal k c || has_literal k d) path x on (or_true (has_literal x c) (has_literal x d) (in_has x c has))

pub joined_second : (path c d : List ℤ) (x : ℤ) → Contains path x → Contains d x → Contains (joined path c d) x
joined_second path c d x on has = filter_has (λ k. has_literal k c || has_literal k d) path x on (true_or (has_literal x c) (has_literal x d) (in_has x d has))
