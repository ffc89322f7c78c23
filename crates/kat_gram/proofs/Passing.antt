-- Lists of which a prefix was passed.
use Rattle.std.proofs.Common.{◌≡◌, ℕ, zero, suc, ◌+◌, ◌≤◌, inl, inr, List, [], ◌∷◌, ◌++◌, map, drop, take, length, refl, sym, ◌∙◌, ap, subst, arith, Option, None, Some}
use Rattle.std.specs.Prelude.{slice_get}
use Rattle.std.proofs.lemmas.List.{drop-drop, length-drop}
use Rattle.kat_gram.specs.Listings.{GivesNext, numbered}
use Rattle.kat_walk.specs.Machines.{Ascends, IsOneOf}
use Rattle.kat_walk.proofs.WordLemmas.{one_right}

pub some_same : {X : Type 0} {x y : X} → Some x ≡ Some y → x ≡ y
some_same h = cc h

-- the element at a place of the rest
pub rest_at : {X : Type 0} (n : ℕ) (xs : List X) → slice_get (drop n xs) 0 ≡ slice_get xs n
rest_at zero [] = refl
rest_at zero (x ∷ xs) = refl
rest_at (suc n) [] = refl
rest_at (suc n) (x ∷ xs) = rest_at n xs

pub first_at : {X : Type 0} (x : X) (xs rest : List X) → xs ≡ x ∷ rest → slice_get xs 0 ≡ Some x
first_at x xs rest e = ap (λ l. slice_get l 0) e

-- one more of them
pub rest_more : {X : Type 0} (n : ℕ) (xs rest : List X) (x : X) → drop n xs ≡ x ∷ rest → drop (n + 1) xs ≡ rest
rest_more n xs rest x e = sym (drop-drop 1 n xs) ∙ ap (drop 1) e

pub front_more : {X : Type 0} (n : ℕ) (xs rest : List X) (x : X) → drop n xs ≡ x ∷ rest → take (n + 1) xs ≡ take n xs ++ x ∷ []
front_more zero [] rest x e = absurd (cc e)
front_more zero (y ∷ xs) rest x e = let same : y ≡ x = cc e in ap (λ z. z ∷ []) same
front_more (suc n) [] rest x e = absurd (cc e)
front_more (suc n) (y ∷ xs) rest x e = let k : suc n + 1 ≡ suc (n + 1) = omega arith in ap (λ i. take i (y ∷ xs)) k ∙ ap (λ l. y ∷ l) (front_more n xs rest x e)

pub within_more : {X : Type 0} (n : ℕ) (xs rest : List X) (x : X) → drop n xs ≡ x ∷ rest → n + 1 ≤ length xs
within_more n xs rest x e = let d = length-drop n xs in let l : length (drop n xs) ≡ suc (length rest) = ap length e in omega (arith, d, l)

pub at_more : {X : Type 0} (n : ℕ) (xs rest : List X) (x : X) → drop n xs ≡ x ∷ rest → slice_get xs n ≡ Some x
at_more n xs rest x e = sym (rest_at n xs) ∙ ap (λ l. slice_get l 0) e

-- nothing is left
pub none_left : {X : Type 0} (n : ℕ) (xs : List X) → drop n xs ≡ [] → length xs ≤ n
none_left n xs e = let d = length-drop n xs in let l : length (drop n xs) ≡ 0 = ap length e in omega (arith, d, l)

-- the next of them, as another list shows them
mapped_none : {A B : Type 0} (f : A → B) (xs : List A) → slice_get (map f xs) 0 ≡ None → map f xs ≡ []
mapped_none f [] e = refl
mapped_none f (x ∷ xs) e = absurd (cc e)

pub none_next : {A B : Type 0} (f : A → B) (n : ℕ) (words left : List A) (o : Option B) → o ≡ slice_get (map f left) 0 → left ≡ drop n words → o ≡ None → GivesNext (map f (drop n words)) (map f (drop n words)) o
none_next {A} {B} f n words left o e same none =
    let nothing : map f (drop n words) ≡ [] = ap (map f) (sym same) ∙ mapped_none f left (sym e ∙ none) in
    subst (λ (p : Option B). GivesNext (map f (drop n words)) (map f (drop n words)) p) (sym none) (nothing, nothing)

mapped_first : {A B : Type 0} (f : A → B) (n : ℕ) (words : List A) (d : B) → slice_get (map f (drop n words)) 0 ≡ Some d → map f (drop n words) ≡ d ∷ map f (drop (n + 1) words)
mapped_first f zero [] d e = absurd (cc e)
mapped_first f zero (x ∷ words) d e = ap (λ y. y ∷ map f words) (some_same e)
mapped_first f (suc n) [] d e = absurd (cc e)
mapped_first f (suc n) (x ∷ words) d e = let k : suc n + 1 ≡ suc (n + 1) = omega arith in mapped_first f n words d e ∙ ap (λ i. d ∷ map f (drop i (x ∷ words))) (sym k)

pub some_next : {A B : Type 0} (f : A → B) (n m : ℕ) (words left : List A) (d : B) → Some d ≡ slice_get (map f left) 0 → left ≡ drop n words → m ≡ n + 1 → GivesNext (map f (drop n words)) (map f (drop m words)) (Some d)
some_next f n m words left d e same k =
    mapped_first f n words d (ap (λ l. slice_get (map f l) 0) (sym same) ∙ sym e) ∙ ap (λ i. d ∷ map f (drop i words)) (sym k)

mapped_front : {A B : Type 0} (f : A → B) (n : ℕ) (words : List A) (d : B) → slice_get (map f (drop n words)) 0 ≡ Some d → map f (take (n + 1) words) ≡ map f (take n words) ++ d ∷ []
mapped_front f zero [] d e = absurd (cc e)
mapped_front f zero (x ∷ words) d e = ap (λ y. y ∷ []) (some_same e)
mapped_front f (suc n) [] d e = absurd (cc e)
mapped_front f (suc n) (x ∷ words) d e =
    let k : suc n + 1 ≡ suc (n + 1) = omega arith in ap (λ i. map f (take i (x ∷ words))) k ∙ ap (λ l. f x ∷ l) (mapped_front f n words d e)

pub some_behind : {A B : Type 0} (f : A → B) (n m : ℕ) (words left : List A) (d : B) → Some d ≡ slice_get (map f left) 0 → left ≡ drop n words → m ≡ n + 1
    → map f (take m words) ≡ map f (take n words) ++ d ∷ []
some_behind f n m words left d e same k =
    ap (λ i. map f (take i words)) k ∙ mapped_front f n words d (ap (λ l. slice_get (map f l) 0) (sym same) ∙ sym e)

-- the element with a number
pub numbered_at : {A B : Type 0} (f : A → B) (n k : ℕ) (words left : List A) (o : Option B) → o ≡ slice_get (map f left) 0 → left ≡ drop k words → n ≡ k + 1 → o ≡ numbered n (map f words)
numbered_at f zero k words left o e same is = absurd (omega (arith, is))
numbered_at f (suc n) k words left o e same is =
    let m : k ≡ n = omega (arith, is) in
    e ∙ ap (λ l. slice_get (map f l) 0) (same ∙ ap (λ i. drop i words) m) ∙ there f n words where
      there : {A B : Type 0} (f : A → B) (i : ℕ) (xs : List A) → slice_get (map f (drop i xs)) 0 ≡ slice_get (map f xs) i
      there f zero [] = refl
      there f zero (x ∷ xs) = refl
      there f (suc i) [] = refl
      there f (suc i) (x ∷ xs) = there f i xs

-- what is numbered is one of them
pub is_numbered : {X : Type 0} (n : ℕ) (xs : List X) (x : X) → numbered n xs ≡ Some x → IsOneOf x xs
is_numbered zero xs x e = absurd (cc e)
is_numbered (suc n) xs x e = at_place n xs x e where
  at_place : {X : Type 0} (n : ℕ) (xs : List X) (x : X) → slice_get xs n ≡ Some x → IsOneOf x xs
  at_place n [] x e = absurd (cc e)
  at_place zero (y ∷ xs) x e = inl (sym (some_same e))
  at_place (suc n) (y ∷ xs) x e = inr (at_place n xs x e)

-- of ascending lists each element has one place
pub one_place : {X : Type 0} (less : X → X → Type 0) → ((a b : X) → less a b → less b a → ⊥) → (xs ys front back : List X) (d : X) → Ascends less (front ++ d ∷ back) → front ++ d ∷ back ≡ xs ++ d ∷ ys
    → (front ≡ xs) × (back ≡ ys)
one_place less never [] ys [] back d a e = (refl, behind e) where
  behind : {X : Type 0} {x y : X} {u v : List X} → x ∷ u ≡ y ∷ v → u ≡ v
  behind h = cc h
one_place {X} less never (x ∷ xs) ys [] back d a e =
    let same : d ≡ x = cc e in
    let rest : back ≡ xs ++ d ∷ ys = cc e in
    let again : less d d = a.0 d (subst (λ (l : List X). IsOneOf d l) (sym rest) (one_right d xs (d ∷ ys) (inl refl))) in
    absurd (never d d again again)
one_place {X} less never [] ys (f ∷ front) back d a e =
    let same : f ≡ d = cc e in
    let twice : less d d = subst (λ (z : X). less z d) same (a.0 d (one_right d front (d ∷ back) (inl refl))) in
    absurd (never d d twice twice)
one_place {X} less never (x ∷ xs) ys (f ∷ front) back d a e =
    let same : f ≡ x = cc e in
    let rest : front ++ d ∷ back ≡ xs ++ d ∷ ys = cc e in
    let more = one_place less never xs ys front back d a.1 rest in
    (λ i. same i ∷ more.0 i, more.1)
