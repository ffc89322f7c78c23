-- The first line of a text.
use Rattle.std.proofs.Common.{◌≡◌, ℕ, zero, suc, ◌+◌, ◌<◌, ◌==◌, if◌then◌else◌, Bool, true, false, List, [], ◌∷◌, take, drop, get_or, length, refl, sym, ap, ◌∙◌, arith}
use Rattle.std.proofs.lemmas.Bool.Decides.{Decides-eqb}
use Rattle.std.proofs.lemmas.List.{drop_all, take_all}
use Rattle.kat_said.specs.Judging.{lines_of, onto_first}

if_true : {A : Type 0} (b : Bool) (x y : A) → b ≡ true → (if b then x else y) ≡ x
if_true b x y e = rw e refl

if_false : {A : Type 0} (b : Bool) (x y : A) → b ≡ false → (if b then x else y) ≡ y
if_false b x y e = rw e refl

untested : (x : ℕ) → (x ≡ 10 → ⊥) → (x == 10) ≡ false
untested x other = by_test (x == 10) refl
  where
    by_test : (b : Bool) → (x == 10) ≡ b → (x == 10) ≡ false
    by_test true e = absurd (other ((Decides-eqb x 10).0 e))
    by_test false e = e

newline : (x : ℕ) (xs : List ℕ) → x ≡ 10 → lines_of (x ∷ xs) ≡ (x ∷ []) ∷ lines_of xs
newline x xs e = if_true (x == 10) ((10 ∷ []) ∷ lines_of xs) (onto_first x (lines_of xs)) ((Decides-eqb x 10).1 e) ∙ ap (λ y. (y ∷ []) ∷ lines_of xs) (sym e)

other_byte : (x : ℕ) (xs : List ℕ) → (x ≡ 10 → ⊥) → lines_of (x ∷ xs) ≡ onto_first x (lines_of xs)
other_byte x xs other = if_false (x == 10) ((10 ∷ []) ∷ lines_of xs) (onto_first x (lines_of xs)) (untested x other)

cut_suc : (xs : List ℕ) (i : ℕ) → i < length xs → ((k : ℕ) → k < i → get_or xs k 0 ≡ 10 → ⊥) → get_or xs i 0 ≡ 10 → lines_of xs ≡ take (suc i) xs ∷ lines_of (drop (suc i) xs)
cut_suc [] i h none at = absurd (omega (arith, h))
cut_suc (x ∷ xs) zero h none at = newline x xs at
cut_suc (x ∷ xs) (suc i) h none at =
    other_byte x xs (none 0 (omega arith))
    ∙ ap (onto_first x) (cut_suc xs i (omega (arith, h)) (λ k less. none (suc k) (omega (arith, less))) at)

pub cut_at : (xs : List ℕ) (i : ℕ) → i < length xs → ((k : ℕ) → k < i → get_or xs k 0 ≡ 10 → ⊥) → get_or xs i 0 ≡ 10 → lines_of xs ≡ take (i + 1) xs ∷ lines_of (drop (i + 1) xs)
cut_at xs i h none at = let on : suc i ≡ i + 1 = omega arith in cut_suc xs i h none at ∙ ap (λ k. take k xs ∷ lines_of (drop k xs)) on

one_line : (xs : List ℕ) → 0 < length xs → ((k : ℕ) → k < length xs → get_or xs k 0 ≡ 10 → ⊥) → lines_of xs ≡ xs ∷ []
one_line [] h none = absurd (omega (arith, h))
one_line (x ∷ []) h none = other_byte x [] (none 0 (omega arith))
one_line (x ∷ y ∷ ys) h none = other_byte x (y ∷ ys) (none 0 (omega arith)) ∙ ap (onto_first x) (one_line (y ∷ ys) (omega arith) (λ k less. none (suc k) (omega (arith, less))))

pub cut_none : (xs : List ℕ) (n : ℕ) → n ≡ length xs → 0 < length xs → ((k : ℕ) → k < length xs → get_or xs k 0 ≡ 10 → ⊥) → lines_of xs ≡ take n xs ∷ lines_of (drop n xs)
cut_none xs n e h none =
    one_line xs h none ∙ ap (λ ys. ys ∷ []) (sym (take_all n xs (omega (arith, e)))) ∙ ap (λ ys. take n xs ∷ lines_of ys) (sym (drop_all n xs (omega (arith, e))))
