-- What comes before a byte and after it.
use Rattle.std.proofs.Common.{◌≡◌, ℕ, zero, suc, ◌+◌, ◌<◌, ◌≤◌, ◌==◌, if◌then◌else◌, Bool, true, false, List, [], ◌∷◌, ◌++◌, take, drop, get_or, length, map, refl, sym, ap, subst, ◌∙◌, arith}
use Rattle.std.specs.List.{flat_map}
use Rattle.std.proofs.lemmas.Bool.Decides.{Decides-eqb}
use Rattle.std.proofs.lemmas.List.{append-nil, drop_all, length-drop, take_all}
use Rattle.kat_said.specs.Guesses.{IsBegun, IsCut, after, front, words}

pub if_true : {A : Type 0} (b : Bool) (x y : A) → b ≡ true → (if b then x else y) ≡ x
if_true b x y e = rw e refl

pub if_false : {A : Type 0} (b : Bool) (x y : A) → b ≡ false → (if b then x else y) ≡ y
if_false b x y e = rw e refl

pub other : (b d : ℕ) → (b ≡ d → ⊥) → (b == d) ≡ false
other b d apart = by_test (b == d) refl
  where
    by_test : (t : Bool) → (b == d) ≡ t → (b == d) ≡ false
    by_test true e = absurd (apart ((Decides-eqb b d).0 e))
    by_test false e = e

-- no byte is this one
abbrev pub Free : ℕ → List ℕ → Type 0
Free d [] = Unit {0}
Free d (b ∷ bs) = (b ≡ d → ⊥) × Free d bs

pub free_append : (d : ℕ) (xs ys : List ℕ) → Free d xs → Free d ys → Free d (xs ++ ys)
free_append d [] ys a b = b
free_append d (x ∷ xs) ys a b = (a.0, free_append d xs ys a.1 b)

-- a text in front of the byte
pub front_free : (d : ℕ) (a rest : List ℕ) → Free d a → front d (a ++ d ∷ rest) ≡ a
front_free d [] rest free = if_true (d == d) [] (d ∷ front d rest) ((Decides-eqb d d).1 refl)
front_free d (b ∷ bs) rest free = if_false (b == d) [] (b ∷ front d (bs ++ d ∷ rest)) (other b d free.0) ∙ ap (λ xs. b ∷ xs) (front_free d bs rest free.1)

pub after_free : (d : ℕ) (a rest : List ℕ) → Free d a → after d (a ++ d ∷ rest) ≡ rest
after_free d [] rest free = if_true (d == d) rest (after d rest) ((Decides-eqb d d).1 refl)
after_free d (b ∷ bs) rest free = if_false (b == d) (bs ++ d ∷ rest) (after d (bs ++ d ∷ rest)) (other b d free.0) ∙ after_free d bs rest free.1

-- a text without the byte
pub front_all : (d : ℕ) (a : List ℕ) → Free d a → front d a ≡ a
front_all d [] free = refl
front_all d (b ∷ bs) free = if_false (b == d) [] (b ∷ front d bs) (other b d free.0) ∙ ap (λ xs. b ∷ xs) (front_all d bs free.1)

-- words after blanks
abbrev pub EachFree : {X : Type 0} → (X → List ℕ) → List X → Type 0
EachFree f [] = Unit {0}
EachFree f (x ∷ xs) = Free 32 (f x) × EachFree f xs

words_past : (a rest : List ℕ) → Free 32 a → words (a ++ rest) ≡ words rest
words_past [] rest free = refl
words_past (b ∷ bs) rest free = if_false (b == 32) (front 32 (bs ++ rest) ∷ words (bs ++ rest)) (words (bs ++ rest)) (other b 32 free.0) ∙ words_past bs rest free.1

front_word : {X : Type 0} (f : X → List ℕ) (a : List ℕ) (xs : List X) → Free 32 a → front 32 (a ++ flat_map (λ x. 32 ∷ f x) xs) ≡ a
front_word f a [] free = ap (front 32) (append-nil a) ∙ front_all 32 a free
front_word f a (x ∷ xs) free = front_free 32 a (f x ++ flat_map (λ y. 32 ∷ f y) xs) free

words_are : {X : Type 0} (f : X → List ℕ) (xs : List X) → EachFree f xs → words (flat_map (λ x. 32 ∷ f x) xs) ≡ map f xs
words_are f [] all = refl
words_are f (x ∷ xs) all =
    let rest : List ℕ = flat_map (λ y. 32 ∷ f y) xs in
    ap (λ w. w ∷ words (f x ++ rest)) (front_word f (f x) xs all.0) ∙ ap (λ ws. f x ∷ ws) (words_past (f x) rest all.0 ∙ words_are f xs all.1)

-- a word, and the words after it
pub front_words : {X : Type 0} (f : X → List ℕ) (a : List ℕ) (xs : List X) → Free 32 a → front 32 (a ++ flat_map (λ x. 32 ∷ f x) xs) ≡ a
front_words f a xs free = front_word f a xs free

pub words_behind : {X : Type 0} (f : X → List ℕ) (a : List ℕ) (xs : List X) → Free 32 a → EachFree f xs → words (a ++ flat_map (λ x. 32 ∷ f x) xs) ≡ map f xs
words_behind f a xs free all = words_past a (flat_map (λ x. 32 ∷ f x) xs) free ∙ words_are f xs all

pub words_all : {X : Type 0} (f : X → List ℕ) (xs : List X) → EachFree f xs → words (flat_map (λ x. 32 ∷ f x) xs) ≡ map f xs
words_all f xs all = words_are f xs all

-- by the place of the first byte d
pub front_at : (d : ℕ) (xs : List ℕ) (i : ℕ) → i < length xs → ((k : ℕ) → k < i → get_or xs k 0 ≡ d → ⊥) → get_or xs i 0 ≡ d → front d xs ≡ take i xs
front_at d [] i h none at = absurd (omega (arith, h))
front_at d (x ∷ xs) zero h none at = if_true (x == d) [] (x ∷ front d xs) ((Decides-eqb x d).1 at)
front_at d (x ∷ xs) (suc i) h none at =
    if_false (x == d) [] (x ∷ front d xs) (other x d (none 0 (omega arith)))
    ∙ ap (λ ys. x ∷ ys) (front_at d xs i (omega (arith, h)) (λ k less. none (suc k) (omega (arith, less))) at)

pub after_at : (d : ℕ) (xs : List ℕ) (i : ℕ) → i < length xs → ((k : ℕ) → k < i → get_or xs k 0 ≡ d → ⊥) → get_or xs i 0 ≡ d → after d xs ≡ drop (suc i) xs
after_at d [] i h none at = absurd (omega (arith, h))
after_at d (x ∷ xs) zero h none at = if_true (x == d) xs (after d xs) ((Decides-eqb x d).1 at)
after_at d (x ∷ xs) (suc i) h none at =
    if_false (x == d) xs (after d xs) (other x d (none 0 (omega arith))) ∙ after_at d xs i (omega (arith, h)) (λ k less. none (suc k) (omega (arith, less))) at

pub free_none : (d : ℕ) (xs : List ℕ) → ((k : ℕ) → k < length xs → get_or xs k 0 ≡ d → ⊥) → Free d xs
free_none d [] none = tt
free_none d (x ∷ xs) none = (none 0 (omega arith), free_none d xs (λ k less. none (suc k) (omega (arith, less))))

pub after_none : (d : ℕ) (xs : List ℕ) → Free d xs → after d xs ≡ []
after_none d [] free = refl
after_none d (x ∷ xs) free = if_false (x == d) xs (after d xs) (other x d free.0) ∙ after_none d xs free.1

pub words_none : (xs : List ℕ) → Free 32 xs → words xs ≡ []
words_none [] free = refl
words_none (x ∷ xs) free = if_false (x == 32) (front 32 xs ∷ words xs) (words xs) (other x 32 free.0) ∙ words_none xs free.1

pub words_at : (xs : List ℕ) (i : ℕ) → i < length xs → ((k : ℕ) → k < i → get_or xs k 0 ≡ 32 → ⊥) → get_or xs i 0 ≡ 32 → words xs ≡ front 32 (drop (suc i) xs) ∷ words (drop (suc i) xs)
words_at [] i h none at = absurd (omega (arith, h))
words_at (x ∷ xs) zero h none at = if_true (x == 32) (front 32 xs ∷ words xs) (words xs) ((Decides-eqb x 32).1 at)
words_at (x ∷ xs) (suc i) h none at =
    if_false (x == 32) (front 32 xs ∷ words xs) (words xs) (other x 32 (none 0 (omega arith))) ∙ words_at xs i (omega (arith, h)) (λ k less. none (suc k) (omega (arith, less))) at

-- the code's answers
pub word_found : (xs : List ℕ) (i : ℕ) (rest : List ℕ) → i < length xs → ((k : ℕ) → k < i → get_or xs k 0 ≡ 32 → ⊥) → get_or xs i 0 ≡ 32 → rest ≡ drop (i + 1) xs → (words xs ≡ front 32 rest ∷ words rest) × (length rest < length xs)
word_found xs i rest h none at is =
    let on : suc i ≡ i + 1 = omega arith in
    let same : drop (suc i) xs ≡ rest = ap (λ k. drop k xs) on ∙ sym is in
    (words_at xs i h none at ∙ ap (λ r. front 32 r ∷ words r) same, omega (arith, h, ap length is, length-drop (i + 1) xs))

pub word_missing : (xs : List ℕ) (i : ℕ) → length xs ≤ i → ((k : ℕ) → k < i → get_or xs k 0 ≡ 32 → ⊥) → words xs ≡ []
word_missing xs i past none = words_none xs (free_none 32 xs (λ k less. none k (omega (arith, less, past))))

pub after_found : (d : ℕ) (xs : List ℕ) (i : ℕ) → i < length xs → ((k : ℕ) → k < i → get_or xs k 0 ≡ d → ⊥) → get_or xs i 0 ≡ d → after d xs ≡ drop (i + 1) xs
after_found d xs i h none at = let on : suc i ≡ i + 1 = omega arith in after_at d xs i h none at ∙ ap (λ k. drop k xs) on

pub front_whole : (d : ℕ) (xs : List ℕ) (i : ℕ) → length xs ≤ i → ((k : ℕ) → k < i → get_or xs k 0 ≡ d → ⊥) → front d xs ≡ take (length xs) xs
front_whole d xs i past none = front_all d xs (free_none d xs (λ k less. none k (omega (arith, less, past)))) ∙ sym (take_all (length xs) xs (omega arith))

pub after_nothing : (d : ℕ) (xs : List ℕ) (i : ℕ) → length xs ≤ i → ((k : ℕ) → k < i → get_or xs k 0 ≡ d → ⊥) → after d xs ≡ drop (length xs + 1) xs
after_nothing d xs i past none = after_none d xs (free_none d xs (λ k less. none k (omega (arith, less, past)))) ∙ sym (drop_all (length xs + 1) xs (omega arith))

-- a text that has the byte, and one that hasn't
cut_at : (d : ℕ) (xs : List ℕ) (i : ℕ) → i < length xs → ((k : ℕ) → k < i → get_or xs k 0 ≡ d → ⊥) → get_or xs i 0 ≡ d → xs ≡ front d xs ++ d ∷ after d xs
cut_at d [] i h none at = absurd (omega (arith, h))
cut_at d (x ∷ xs) zero h none at =
    let is : (x == d) ≡ true = (Decides-eqb x d).1 at in
    ap (λ y. y ∷ xs) at ∙ sym (ap (λ f. f ++ d ∷ after d (x ∷ xs)) (if_true (x == d) [] (x ∷ front d xs) is) ∙ ap (λ r. d ∷ r) (if_true (x == d) xs (after d xs) is))
cut_at d (x ∷ xs) (suc i) h none at =
    let isnt : (x == d) ≡ false = other x d (none 0 (omega arith)) in
    ap (λ ys. x ∷ ys) (cut_at d xs i (omega (arith, h)) (λ k less. none (suc k) (omega (arith, less))) at)
    ∙ sym (ap (λ f. f ++ d ∷ after d (x ∷ xs)) (if_false (x == d) [] (x ∷ front d xs) isnt) ∙ ap (λ r. x ∷ (front d xs ++ d ∷ r)) (if_false (x == d) xs (after d xs) isnt))

pub cut_found : (d : ℕ) (xs : List ℕ) (i : ℕ) → i < length xs → ((k : ℕ) → k < i → get_or xs k 0 ≡ d → ⊥) → get_or xs i 0 ≡ d → IsCut d xs
cut_found d xs i h none at = cut_at d xs i h none at

free_in : (d : ℕ) (a rest : List ℕ) → Free d (a ++ d ∷ rest) → ⊥
free_in d [] rest free = free.0 refl
free_in d (x ∷ xs) rest free = free_in d xs rest free.1

pub cut_missing : (d : ℕ) (xs : List ℕ) (i : ℕ) → length xs ≤ i → ((k : ℕ) → k < i → get_or xs k 0 ≡ d → ⊥) → IsCut d xs → ⊥
cut_missing d xs i past none cut =
    let free = free_none d xs (λ k less. none k (omega (arith, less, past))) in
    let P : List ℕ → Type 0 = Free d in free_in d (front d xs) (after d xs) (subst P cut free)

pub cut_free : (d : ℕ) (a rest : List ℕ) → Free d a → IsCut d (a ++ d ∷ rest)
cut_free d a rest free = sym (ap (λ f. f ++ d ∷ after d (a ++ d ∷ rest)) (front_free d a rest free) ∙ ap (λ r. a ++ d ∷ r) (after_free d a rest free))

-- a text that begins with a blank is put together of its words
word_again : (b : ℕ) (bs : List ℕ) → bs ≡ front 32 bs ++ flat_map (λ w. 32 ∷ w) (words bs) → b ∷ bs ≡ front 32 (b ∷ bs) ++ flat_map (λ w. 32 ∷ w) (words (b ∷ bs))
word_again b bs rest = by_test (b == 32) refl
  where
    by_test : (t : Bool) → (b == 32) ≡ t → b ∷ bs ≡ front 32 (b ∷ bs) ++ flat_map (λ w. 32 ∷ w) (words (b ∷ bs))
    by_test true e =
        ap (λ y. y ∷ bs) ((Decides-eqb b 32).0 e) ∙ ap (λ ys. 32 ∷ ys) rest
        ∙ sym (ap (λ f. f ++ flat_map (λ w. 32 ∷ w) (words (b ∷ bs))) (if_true (b == 32) [] (b ∷ front 32 bs) e) ∙ ap (λ ws. flat_map (λ w. 32 ∷ w) ws) (if_true (b == 32) (front 32 bs ∷ words bs) (words bs) e))
    by_test false e =
        ap (λ ys. b ∷ ys) rest
        ∙ sym (ap (λ f. f ++ flat_map (λ w. 32 ∷ w) (words (b ∷ bs))) (if_false (b == 32) [] (b ∷ front 32 bs) e) ∙ ap (λ ws. b ∷ (front 32 bs ++ flat_map (λ w. 32 ∷ w) ws)) (if_false (b == 32) (front 32 bs ∷ words bs) (words bs) e))

words_again : (bs : List ℕ) → bs ≡ front 32 bs ++ flat_map (λ w. 32 ∷ w) (words bs)
words_again [] = refl
words_again (b ∷ bs) = word_again b bs (words_again bs)

begun_front : (bs : List ℕ) → IsBegun bs → front 32 bs ≡ []
begun_front [] h = refl
begun_front (b ∷ bs) h = if_true (b == 32) [] (b ∷ front 32 bs) ((Decides-eqb b 32).1 h)

pub words_whole : (bs : List ℕ) → IsBegun bs → bs ≡ flat_map (λ w. 32 ∷ w) (words bs)
words_whole bs h = words_again bs ∙ ap (λ f. f ++ flat_map (λ w. 32 ∷ w) (words bs)) (begun_front bs h)
