-- How many choices there are, and the one with a number.
use Rattle.std.proofs.Common.{◌≡◌, ℕ, zero, suc, ◌+◌, ◌*◌, ◌^◌, ◌/◌, ◌%◌, ◌<◌, ◌≤◌, ⊎_elim, List, [], ◌∷◌, ◌++◌, map, length, get_or, arith, refl, sym, ◌∙◌, ap, subst}
use Rattle.std.specs.Prelude.{min}
use Rattle.std.specs.List.{flat_map}
use Rattle.std.proofs.Math.Nat.{div-add-mod, div-eq_of_lt, div-lt_iff_lt-mul, mod-eq_of_lt, mod-lt, mul-zero, mul_comm, pow-succ', pow-zero, suc-mul, zero-mul}
use Rattle.std.proofs.lemmas.List.{get_or-append_right, get_or-map, get_or_append_left, length-append, length-map}
use Rattle.std.proofs.lemmas.Bool.{cases_lt}
use Rattle.kat_histories.specs.Choices.{headed, one_of_each}

-- pieces of one length
pub flat_length : {X Y : Type 0} (f : X → List Y) (n : ℕ) (xs : List X) → ((x : X) → length (f x) ≡ n) → length (flat_map f xs) ≡ length xs * n
flat_length f n [] same = sym (zero-mul n)
flat_length f n (x ∷ xs) same =
    length-append (f x) (flat_map f xs) ∙ sum (length (f x)) (length (flat_map f xs)) (length xs) (same x) (flat_length f n xs same) where
      sum : (a b k : ℕ) → a ≡ n → b ≡ k * n → a + b ≡ suc k * n
      sum a b k e h = let s = suc-mul k n in omega (arith, e, h, s)

pub flat_piece : {X Y : Type 0} (f : X → List Y) (n : ℕ) (xs : List X) (q r : ℕ) (e : X) (d : Y) → ((x : X) → length (f x) ≡ n) → q < length xs → r < n
    → get_or (flat_map f xs) (q * n + r) d ≡ get_or (f (get_or xs q e)) r d
flat_piece f n [] q r e d same lt less = absurd (no_less q lt) where
  no_less : (a : ℕ) → a < 0 → ⊥
  no_less a h = omega (arith, h)
flat_piece f n (x ∷ xs) zero r e d same lt less =
    let z = zero-mul n in
    let i : 0 * n + r ≡ r = omega (arith, z) in
    ap (λ k. get_or (f x ++ flat_map f xs) k d) i ∙ get_or_append_left (f x) (flat_map f xs) d r (let k = same x in omega (arith, k, less))
flat_piece f n (x ∷ xs) (suc q) r e d same lt less =
    let s = suc-mul q n in
    get_or-append_right (f x) (flat_map f xs) n (suc q * n + r) d (same x) (omega (arith, s))
    ∙ ap (λ i. get_or (flat_map f xs) i d) (omega (arith, s))
    ∙ flat_piece f n xs q r e d same (omega (arith, lt)) less

-- what is chosen first decides the block, in which the rest is
pub headed_length : {X : Type 0} (x : X) (lists : List (List X)) → length (map (headed x) lists) ≡ length lists
headed_length x lists = length-map lists (headed x)

pub block : {X : Type 0} (xs : List X) (lists : List (List X)) (number : ℕ) (e : X) → number < length xs * length lists
    → get_or (flat_map (λ x. map (headed x) lists) xs) number [] ≡ headed (get_or xs (number / length lists) e) (get_or lists (number % length lists) [])
block {X} xs lists number e lt = by_size (length lists) refl where
  inside : 0 < length lists → get_or (flat_map (λ x. map (headed x) lists) xs) number [] ≡ headed (get_or xs (number / length lists) e) (get_or lists (number % length lists) [])
  inside some =
      let r : number % length lists < length lists = mod-lt number some in
      let q : number / length lists < length xs = (div-lt_iff_lt-mul some).1 lt in
      let parts = div-add-mod number (length lists) in
      let turned = mul_comm (length lists) (number / length lists) in
      ap (λ i. get_or (flat_map (λ x. map (headed x) lists) xs) i []) (omega (arith, parts, turned))
      ∙ flat_piece (λ x. map (headed x) lists) (length lists) xs (number / length lists) (number % length lists) e [] (λ x. headed_length x lists) q r
      ∙ get_or-map (headed (get_or xs (number / length lists) e)) lists (number % length lists) [] [] r

  no_less : (a : ℕ) → a ≡ 0 → number < a → ⊥
  no_less a is h = omega (arith, is, h)

  by_size : (n : ℕ) → length lists ≡ n → get_or (flat_map (λ x. map (headed x) lists) xs) number [] ≡ headed (get_or xs (number / length lists) e) (get_or lists (number % length lists) [])
  by_size zero is = absurd (let z = mul-zero (length xs) in let k : length xs * length lists ≡ length xs * 0 = ap (λ m. length xs * m) is in no_less (length xs * length lists) (k ∙ z) lt)
  by_size (suc n) is = inside (omega (arith, is))

-- one of each of lists that are as long
pub each_length : {A X : Type 0} (f : A → List X) (n : ℕ) (ats : List A) → ((at : A) → length (f at) ≡ n) → length (one_of_each (map f ats)) ≡ n ^ length ats
each_length f n [] same = sym (pow-zero n)
each_length {A} {X} f n (at ∷ ats) same =
    flat_length (λ x. map (headed x) (one_of_each (map f ats))) (length (one_of_each (map f ats))) (f at) (λ x. headed_length x (one_of_each (map f ats)))
    ∙ ap (λ k. k * length (one_of_each (map f ats))) (same at)
    ∙ ap (λ k. n * k) (each_length f n ats same)
    ∙ sym (pow-succ' n (length ats))

pub each_block : {A X : Type 0} (f : A → List X) (n : ℕ) (at : A) (ats : List A) (number : ℕ) (e : X) → ((at : A) → length (f at) ≡ n) → number < n ^ suc (length ats)
    → get_or (one_of_each (map f (at ∷ ats))) number [] ≡ headed (get_or (f at) (number / n ^ length ats) e) (get_or (one_of_each (map f ats)) (number % n ^ length ats) [])
each_block f n at ats number e same lt =
    let long : length (one_of_each (map f ats)) ≡ n ^ length ats = each_length f n ats same in
    subst (λ m. get_or (one_of_each (map f (at ∷ ats))) number [] ≡ headed (get_or (f at) (number / m) e) (get_or (one_of_each (map f ats)) (number % m) [])) long
    (block (f at) (one_of_each (map f ats)) number e (subst (λ m. number < m) (pow-succ' n (length ats) ∙ ap (λ m. n * m) (sym long) ∙ ap (λ k. k * length (one_of_each (map f ats))) (sym (same at))) lt))

-- numbers that stop at a limit
pub capped_sum : (a b most : ℕ) → min (min a most + min b most) most ≡ min (a + b) most
capped_sum a b most = omega arith

pub capped_product : (c p most : ℕ) → min (c * min p most) most ≡ min (c * p) most
capped_product zero p most = ap (λ k. min k most) (zero-mul (min p most) ∙ sym (zero-mul p))
capped_product (suc c) p most = ⊎_elim (past c) (within c) (cases_lt most p) where
  within : (c : ℕ) → p ≤ most → min (suc c * min p most) most ≡ min (suc c * p) most
  within c h = ap (λ k. min (suc c * k) most) (omega (arith, h))

  past : (c : ℕ) → most < p → min (suc c * min p most) most ≡ min (suc c * p) most
  past c h =
      let a = suc-mul c (min p most) in
      let b = suc-mul c p in
      omega (arith, a, b, h)

pub capped_quotient : (number m most : ℕ) → number < most → number / min m most ≡ number / m
capped_quotient number m most lt = ⊎_elim past within (cases_lt most m) where
  within : m ≤ most → number / min m most ≡ number / m
  within h = ap (λ k. number / k) (omega (arith, h))

  past : most < m → number / min m most ≡ number / m
  past h = div-eq_of_lt (omega (arith, lt, h)) ∙ sym (div-eq_of_lt (omega (arith, lt, h)))

pub capped_rest : (number m most : ℕ) → number < most → number % min m most ≡ number % m
capped_rest number m most lt = ⊎_elim past within (cases_lt most m) where
  within : m ≤ most → number % min m most ≡ number % m
  within h = ap (λ k. number % k) (omega (arith, h))

  past : most < m → number % min m most ≡ number % m
  past h = mod-eq_of_lt (omega (arith, lt, h)) ∙ sym (mod-eq_of_lt (omega (arith, lt, h)))
