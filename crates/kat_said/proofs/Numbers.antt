-- Numbers are read back from their digits.
use Rattle.std.proofs.Common.{◌≡◌, ℕ, suc, ◌+◌, ◌-◌, ◌*◌, ◌%◌, ◌<◌, ◌≤◌, ◌^◌, ◌==◌, nat_lt, ◌⊎◌, inl, ⊎_elim, ℤ, pos, negsuc, neg_ℤ, Bool, true, false, List, [], ◌∷◌, ◌++◌, All, map, refl, sym, ap, ◌∙◌, arith}
use Rattle.std.specs.Fmt.{decimal, signed_decimal}
use Rattle.std.specs.List.{flat_map}
use Rattle.std.specs.Char.{digit_value}
use Rattle.std.specs.Str.Parse.{digits_value_after}
use Rattle.std.proofs.lemmas.Fmt.{decimal_by_steps_wide, decimal_is_IsNumeral_wide}
use Rattle.std.proofs.lemmas.List.Elements.{All-head, All-tail}
use Rattle.kat_said.specs.Guesses.{bit_in, number_after, number_in, whole_in, with_digit}
use Rattle.kat_said.specs.Sayings.{IsNarrow, behind_blank, bit_code, bit_text}
use Rattle.kat_said.proofs.Parts.{EachFree, Free, free_append, if_false, if_true, other}

-- digits
abbrev pub Digits : List ℕ → Type 0
Digits [] = Unit {0}
Digits (c ∷ cs) = ((48 ≤ c) × (c < 58)) × Digits cs

pub digits_push : (ds : List ℕ) (c : ℕ) → Digits ds → 48 ≤ c → c < 58 → Digits (ds ++ c ∷ [])
digits_push [] c all low high = ((low, high), tt)
digits_push (d ∷ ds) c all low high = (all.0, digits_push ds c all.1 low high)

small_wide : (n : ℕ) → n ≤ 2 ^ 126 → n < 10 ^ 64
small_wide n small = omega (arith, small)

decimal_digits_wide : (n : ℕ) → n < 10 ^ 64 → Digits (decimal n)
decimal_digits_wide = decimal_by_steps_wide (λ n ds. Digits ds)
    (λ n small. ((omega arith, omega (arith, small)), tt))
    (λ n ds large all. digits_push ds (48 + n % 10) all (omega arith) (omega arith))

pub decimal_digits : (n : ℕ) → n ≤ 2 ^ 126 → Digits (decimal n)
decimal_digits n small = decimal_digits_wide n (small_wide n small)

pub digits_free : (d : ℕ) (ds : List ℕ) → (d < 45) ⊎ (58 ≤ d) → Digits ds → Free d ds
digits_free d [] out all = tt
digits_free d (c ∷ cs) out all =
    let low = all.0.0 in let high = all.0.1 in
    (λ e. ⊎_elim (λ (l : d < 45). omega (arith, l, e, low)) (λ (h : 58 ≤ d). omega (arith, h, e, high)) out, digits_free d cs out all.1)

pub signed_free : (d : ℕ) (z : ℤ) → (d < 45) ⊎ (58 ≤ d) → IsNarrow z → Free d (signed_decimal z)
signed_free d (pos n) out small = digits_free d (decimal n) out (decimal_digits n small)
signed_free d (negsuc n) out small =
    (λ e. ⊎_elim (λ (l : d < 45). omega (arith, l, e)) (λ (h : 58 ≤ d). omega (arith, h, e)) out, digits_free d (decimal (suc n)) out (decimal_digits (suc n) small))

pub number_free : (d n : ℕ) → (d < 45) ⊎ (58 ≤ d) → n ≤ 2 ^ 126 → Free d (decimal n)
number_free d n out small = digits_free d (decimal n) out (decimal_digits n small)

-- the value of digits
pub less_true : (a b : ℕ) → a < b → nat_lt a b ≡ true
less_true a b h = grind arith

pub less_false : (a b : ℕ) → b ≤ a → nat_lt a b ≡ false
less_false a b h = grind arith

pub digit_is : (c : ℕ) → 48 ≤ c → c < 58 → digit_value c ≡ c - 48
digit_is c low high =
    let first : nat_lt c 48 ≡ false = less_false c 48 low in
    let second : nat_lt c 58 ≡ true = less_true c 58 high in
    rw first (rw second refl)

value_grows : (n : ℕ) (ds : List ℕ) → n ≤ digits_value_after 10 n ds
value_grows n [] = omega arith
value_grows n (c ∷ cs) = let rest = value_grows (n * 10 + digit_value c) cs in omega (arith, rest)

pub with_digit_is : (n c : ℕ) → n < 10 ^ 37 → with_digit n c ≡ n * 10 + (c - 48)
with_digit_is n c small = if_true (nat_lt n (10 ^ 37)) (n * 10 + (c - 48)) (10 ^ 38) (less_true n (10 ^ 37) small)

value_is : (n : ℕ) (ds : List ℕ) → Digits ds → digits_value_after 10 n ds ≤ 2 ^ 126 → number_after n ds ≡ digits_value_after 10 n ds
value_is n [] all small = refl
value_is n (c ∷ cs) all small =
    let grows = value_grows (n * 10 + digit_value c) cs in
    let less : n < 10 ^ 37 = omega (arith, grows, small) in
    let step : with_digit n c ≡ n * 10 + digit_value c = with_digit_is n c less ∙ ap (λ d. n * 10 + d) (sym (digit_is c all.0.0 all.0.1)) in
    ap (λ m. number_after m cs) step ∙ value_is (n * 10 + digit_value c) cs all.1 small

pub number_back : (n : ℕ) → n ≤ 2 ^ 126 → number_in (decimal n) ≡ n
number_back n small =
    let value : digits_value_after 10 0 (decimal n) ≡ n = (decimal_is_IsNumeral_wide n (small_wide n small)).1 in
    value_is 0 (decimal n) (decimal_digits n small) (omega (arith, value, small)) ∙ value

pub whole_digits : (ds : List ℕ) → Digits ds → whole_in ds ≡ pos (number_in ds)
whole_digits [] all = refl
whole_digits (c ∷ cs) all = let low = all.0.0 in if_false (c == 45) (neg_ℤ (pos (number_in cs))) (pos (number_in (c ∷ cs))) (other c 45 (λ e. omega (arith, e, low)))

pub whole_back : (z : ℤ) → IsNarrow z → whole_in (signed_decimal z) ≡ z
whole_back (pos n) small = whole_digits (decimal n) (decimal_digits n small) ∙ ap pos (number_back n small)
whole_back (negsuc n) small = ap (λ k. neg_ℤ (pos k)) (number_back (suc n) small)

pub wholes_back : (zs : List ℤ) → All IsNarrow zs → map whole_in (map signed_decimal zs) ≡ zs
wholes_back [] all = refl
wholes_back (z ∷ zs) all =
    let first = whole_back z (All-head IsNarrow z zs all) in
    let rest = wholes_back zs (All-tail IsNarrow z zs all) in cc

pub wholes_free : (zs : List ℤ) → All IsNarrow zs → EachFree signed_decimal zs
wholes_free [] all = tt
wholes_free (z ∷ zs) all = (signed_free 32 z (inl (omega arith)) (All-head IsNarrow z zs all), wholes_free zs (All-tail IsNarrow z zs all))

-- a byte that is no digit, no sign and no blank occurs in no list of whole numbers
pub wholes_plain : (d : ℕ) (zs : List ℤ) → (d < 45) ⊎ (58 ≤ d) → (32 ≡ d → ⊥) → All IsNarrow zs → Free d (flat_map behind_blank zs)
wholes_plain d [] out apart all = tt
wholes_plain d (z ∷ zs) out apart all =
    free_append d (behind_blank z) (flat_map behind_blank zs) (apart, signed_free d z out (All-head IsNarrow z zs all)) (wholes_plain d zs out apart (All-tail IsNarrow z zs all))

-- truth values
pub bit_free : (d : ℕ) (b : Bool) → (d < 45) ⊎ (58 ≤ d) → Free d (bit_code b)
bit_free d true out = (λ e. ⊎_elim (λ (l : d < 45). omega (arith, l, e)) (λ (h : 58 ≤ d). omega (arith, h, e)) out, tt)
bit_free d false out = (λ e. ⊎_elim (λ (l : d < 45). omega (arith, l, e)) (λ (h : 58 ≤ d). omega (arith, h, e)) out, tt)

pub bits_free : (bs : List Bool) → EachFree bit_code bs
bits_free [] = tt
bits_free (b ∷ bs) = (bit_free 32 b (inl (omega arith)), bits_free bs)

pub bits_plain : (d : ℕ) (bs : List Bool) → (d < 45) ⊎ (58 ≤ d) → (32 ≡ d → ⊥) → Free d (flat_map bit_text bs)
bits_plain d [] out apart = tt
bits_plain d (b ∷ bs) out apart = free_append d (bit_text b) (flat_map bit_text bs) (apart, bit_free d b out) (bits_plain d bs out apart)

bit_back : (b : Bool) → bit_in (bit_code b) ≡ b
bit_back true = refl
bit_back false = refl

pub bits_back : (bs : List Bool) → map bit_in (map bit_code bs) ≡ bs
bits_back [] = refl
bits_back (b ∷ bs) = let first = bit_back b in let rest = bits_back bs in cc
