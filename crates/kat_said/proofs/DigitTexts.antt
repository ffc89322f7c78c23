-- Numbers in digits, however many.
use Rattle.std.proofs.Common.{◌≡◌, ℕ, zero, suc, ◌+◌, ◌-◌, ◌*◌, ◌/◌, ◌%◌, ◌<◌, ◌≤◌, ◌^◌, ◌==◌, nat_lt, ◌⊎◌, inl, inr, ⊎_elim, if◌then◌else◌, ℤ, pos, negsuc, neg_ℤ, int_lt, false, List, [], ◌∷◌, ◌++◌, append_assoc, map, refl, sym, ap, ◌∙◌, subst, arith}
use Rattle.std.specs.Fmt.{decimal, signed_decimal}
use Rattle.std.specs.Char.{digit_value}
use Rattle.std.specs.Str.Parse.{digits_value_after}
use Rattle.std.proofs.lemmas.Fmt.{decimal_by_steps_wide}
use Rattle.std.proofs.lemmas.Int.{ints}
use Rattle.kat_points.specs.Held.{AreHeldAs, IsHeldAs}
use Rattle.kat_said.specs.Guesses.{number_after, number_in, read_whole, with_digit}
use Rattle.kat_said.specs.Numerals.{digits_before, numeral, whole_numeral}
use Rattle.kat_said.specs.Sayings.{IsNarrow}
use Rattle.kat_said.proofs.Numbers.{Digits, digit_is, digits_free, digits_push, less_false, less_true, whole_digits, with_digit_is}
use Rattle.kat_said.proofs.Parts.{Free, if_false, if_true}

one_or_more : (n : ℕ) → (n < 10) ⊎ (10 ≤ n)
one_or_more n = grind arith

-- by the last digit
before_last : (k n : ℕ) (others : List ℕ) → n < 10 → digits_before (suc k) n others ≡ (48 + n) ∷ others
before_last k n others h = if_true (nat_lt n 10) ((48 + n) ∷ others) (digits_before k (n / 10) ((48 + n % 10) ∷ others)) (less_true n 10 h)

before_next : (k n : ℕ) (others : List ℕ) → 10 ≤ n → digits_before (suc k) n others ≡ digits_before k (n / 10) ((48 + n % 10) ∷ others)
before_next k n others h = if_false (nat_lt n 10) ((48 + n) ∷ others) (digits_before k (n / 10) ((48 + n % 10) ∷ others)) (less_false n 10 h)

before_append : (k n : ℕ) (others : List ℕ) → digits_before k n others ≡ digits_before k n [] ++ others
before_append zero n others = refl
before_append (suc k) n others = ⊎_elim
    (λ (l : n < 10). before_last k n others l ∙ ap (λ x. x ++ others) (sym (before_last k n [] l)))
    (λ (l : 10 ≤ n). before_next k n others l ∙ before_append k (n / 10) ((48 + n % 10) ∷ others) ∙ sym (append_assoc (digits_before k (n / 10) []) ((48 + n % 10) ∷ []) others)
    ∙ ap (λ x. x ++ others) (sym (before_next k n [] l ∙ before_append k (n / 10) ((48 + n % 10) ∷ []))))
    (one_or_more n)

before_enough : (j k n : ℕ) (others : List ℕ) → n ≤ j → n ≤ k → digits_before (suc j) n others ≡ digits_before (suc k) n others
before_enough zero k n others p q = let l : n < 10 = omega (arith, p) in before_last zero n others l ∙ sym (before_last k n others l)
before_enough (suc j) zero n others p q = let l : n < 10 = omega (arith, q) in before_last (suc j) n others l ∙ sym (before_last zero n others l)
before_enough (suc j) (suc k) n others p q = ⊎_elim
    (λ (l : n < 10). before_last (suc j) n others l ∙ sym (before_last (suc k) n others l))
    (λ (l : 10 ≤ n). before_next (suc j) n others l ∙ before_enough j k (n / 10) ((48 + n % 10) ∷ others) (omega (arith, l, p)) (omega (arith, l, q)) ∙ sym (before_next (suc k) n others l))
    (one_or_more n)

numeral_is : (n : ℕ) → numeral n ≡ digits_before (suc n) n []
unfolding numeral
numeral_is n = refl

pub numeral_digit : (n : ℕ) → n < 10 → numeral n ≡ (48 + n) ∷ []
numeral_digit n h = numeral_is n ∙ before_last n n [] h

pub numeral_step : (n : ℕ) → 10 ≤ n → numeral n ≡ numeral (n / 10) ++ (48 + n % 10) ∷ []
numeral_step n h =
    let on : n ≡ suc (n - 1) = omega (arith, h) in
    let d : List ℕ = (48 + n % 10) ∷ [] in
    numeral_is n ∙ before_next n n [] h ∙ before_append n (n / 10) ((48 + n % 10) ∷ [])
    ∙ ap (λ k. digits_before k (n / 10) [] ++ d) on
    ∙ ap (λ x. x ++ d) (before_enough (n - 1) (n / 10) (n / 10) [] (omega (arith, h)) (omega arith))
    ∙ ap (λ x. x ++ d) (sym (numeral_is (n / 10)))

module _ (P : ℕ → List ℕ → Type 0) (one : (n : ℕ) → n < 10 → P n ((48 + n) ∷ [])) (more : (n : ℕ) (ds : List ℕ) → 10 ≤ n → P (n / 10) ds → P n (ds ++ (48 + n % 10) ∷ [])) where
  by : (k n : ℕ) → n ≤ k → P n (numeral n)
  by zero n le = subst (P n) (sym (numeral_digit n (omega (arith, le)))) (one n (omega (arith, le)))
  by (suc k) n le = ⊎_elim
      (λ (l : n < 10). subst (P n) (sym (numeral_digit n l)) (one n l))
      (λ (l : 10 ≤ n). subst (P n) (sym (numeral_step n l)) (more n (numeral (n / 10)) l (by k (n / 10) (omega (arith, l, le)))))
      (one_or_more n)

  pub numeral_by_steps : (n : ℕ) → P n (numeral n)
  numeral_by_steps n = by n n (omega arith)

-- std's text of a number of no more than 64 digits
pub numeral_decimal : (n : ℕ) → n < 10 ^ 64 → numeral n ≡ decimal n
numeral_decimal = decimal_by_steps_wide (λ n ds. numeral n ≡ ds) numeral_digit (λ n ds large same. numeral_step n large ∙ ap (λ x. x ++ (48 + n % 10) ∷ []) same)

pub whole_decimal : (z : ℤ) → IsNarrow z → whole_numeral z ≡ signed_decimal z
whole_decimal (pos n) small = numeral_decimal n (omega (arith, small))
whole_decimal (negsuc n) small = ap (λ ds. 45 ∷ ds) (numeral_decimal (suc n) (omega (arith, small)))

-- digits
pub numeral_digits : (n : ℕ) → Digits (numeral n)
numeral_digits = numeral_by_steps (λ n ds. Digits ds)
    (λ n small. ((omega arith, omega (arith, small)), tt))
    (λ n ds large all. digits_push ds (48 + n % 10) all (omega arith) (omega arith))

pub whole_free : (d : ℕ) (z : ℤ) → (d < 45) ⊎ (58 ≤ d) → Free d (whole_numeral z)
whole_free d (pos n) out = digits_free d (numeral n) out (numeral_digits n)
whole_free d (negsuc n) out =
    (λ e. ⊎_elim (λ (l : d < 45). omega (arith, l, e)) (λ (h : 58 ≤ d). omega (arith, h, e)) out, digits_free d (numeral (suc n)) out (numeral_digits (suc n)))

-- the first digit of a number above 0 is none
abbrev pub Leads : List ℕ → Type 0
Leads [] = ⊥
Leads (c ∷ cs) = 48 < c

leads_push : (ds : List ℕ) (c : ℕ) → Leads ds → Leads (ds ++ c ∷ [])
leads_push [] c h = absurd h
leads_push (d ∷ ds) c h = h

pub numeral_leads : (n : ℕ) → 0 < n → Leads (numeral n)
numeral_leads = numeral_by_steps (λ n ds. 0 < n → Leads ds)
    (λ n small some. omega (arith, some))
    (λ n ds large leads some. leads_push ds (48 + n % 10) (leads (omega (arith, large))))

-- the exact value of digits
abbrev pub value_of : List ℕ → ℕ
value_of ds = digits_value_after 10 0 ds

value_push : (a : ℕ) (ds : List ℕ) (c : ℕ) → digits_value_after 10 a (ds ++ c ∷ []) ≡ digits_value_after 10 a ds * 10 + digit_value c
value_push a [] c = refl
value_push a (d ∷ ds) c = value_push (a * 10 + digit_value d) ds c

pub numeral_value : (n : ℕ) → value_of (numeral n) ≡ n
numeral_value = numeral_by_steps (λ n ds. digits_value_after 10 0 ds ≡ n)
    (λ n small. let d = digit_is (48 + n) (omega arith) (omega (arith, small)) in omega (arith, d))
    (λ n ds large value. let d = digit_is (48 + n % 10) (omega arith) (omega arith) in omega (arith, value_push 0 ds (48 + n % 10), value, d))

abbrev pub exact : List ℕ → ℤ
exact [] = pos 0
exact (b ∷ bs) = if b == 45 then neg_ℤ (pos (value_of bs)) else pos (value_of (b ∷ bs))

exact_digits : (ds : List ℕ) → Digits ds → exact ds ≡ pos (value_of ds)
exact_digits [] all = refl
exact_digits (c ∷ cs) all = let low = all.0.0 in if_false (c == 45) (neg_ℤ (pos (value_of cs))) (pos (value_of (c ∷ cs))) (apart c low)
  where
    apart : (c : ℕ) → 48 ≤ c → (c == 45) ≡ false
    apart c low = grind (arith, low)

pub exact_back : (z : ℤ) → exact (whole_numeral z) ≡ z
exact_back (pos n) = exact_digits (numeral n) (numeral_digits n) ∙ ap pos (numeral_value n)
exact_back (negsuc n) = ap (λ k. neg_ℤ (pos k)) (numeral_value (suc n))

pub exacts_back : (zs : List ℤ) → map (λ z. exact (whole_numeral z)) zs ≡ zs
exacts_back [] = refl
exacts_back (z ∷ zs) = let first = exact_back z in let rest = exacts_back zs in cc

-- digits are the numeral of their value
pub numeral_after : (n : ℕ) (ds : List ℕ) → 0 < n → Digits ds → numeral (digits_value_after 10 n ds) ≡ numeral n ++ ds
numeral_after n [] some all = nil (numeral n)
  where
    nil : (xs : List ℕ) → xs ≡ xs ++ []
    nil [] = refl
    nil (x ∷ xs) = ap (λ ys. x ∷ ys) (nil xs)
numeral_after n (c ∷ cs) some all =
    let low = all.0.0 in
    let high = all.0.1 in
    let d = digit_is c low high in
    let m : ℕ = n * 10 + digit_value c in
    let front : m / 10 ≡ n = omega (arith, d, low, high) in
    let end : 48 + m % 10 ≡ c = omega (arith, d, low, high) in
    let large : 10 ≤ m = omega (arith, some) in
    numeral_after m cs (omega (arith, some)) all.1
    ∙ ap (λ x. x ++ cs) (numeral_step m large ∙ ap (λ k. numeral k ++ (48 + m % 10) ∷ []) front ∙ ap (λ k. numeral n ++ k ∷ []) end)
    ∙ append_assoc (numeral n) (c ∷ []) cs

pub numeral_of_digits : (c : ℕ) (cs : List ℕ) → 48 < c → Digits (c ∷ cs) → c ∷ cs ≡ numeral (value_of (c ∷ cs))
numeral_of_digits c cs first all =
    let high = all.0.1 in
    let d = digit_is c all.0.0 high in
    let n : ℕ = 0 * 10 + digit_value c in
    let is : 48 + n ≡ c = omega (arith, d, first) in
    sym (numeral_after n cs (omega (arith, d, first)) all.1 ∙ ap (λ x. x ++ cs) (numeral_digit n (omega (arith, d, high)) ∙ ap (λ k. k ∷ []) is))

-- what is read of digits: the number, or 10^38
read_push : (a : ℕ) (ds : List ℕ) (c : ℕ) → number_after a (ds ++ c ∷ []) ≡ with_digit (number_after a ds) c
read_push a [] c = refl
read_push a (d ∷ ds) c = read_push (with_digit a d) ds c

with_digit_past : (n c : ℕ) → 10 ^ 37 ≤ n → with_digit n c ≡ 10 ^ 38
with_digit_past n c large = if_false (nat_lt n (10 ^ 37)) (n * 10 + (c - 48)) (10 ^ 38) (less_false n (10 ^ 37) large)

abbrev ReadAs : ℕ → ℕ → Type 0
ReadAs n m = (n < 10 ^ 38 → m ≡ n) × (10 ^ 38 ≤ n → m ≡ 10 ^ 38)

below_or : (n k : ℕ) → (n < k) ⊎ (k ≤ n)
below_or n k = grind arith

read_step : (n m : ℕ) → 10 ≤ n → ReadAs (n / 10) m → ReadAs n (with_digit m (48 + n % 10))
read_step n m large was = (
  λ small. let m_is = was.0 (omega (arith, small)) in let w = with_digit_is m (48 + n % 10) (omega (arith, m_is, small)) in omega (arith, m_is, w),
  λ past. ⊎_elim
      (λ (less : n / 10 < 10 ^ 38). let m_is = was.0 less in with_digit_past m (48 + n % 10) (omega (arith, m_is, past)))
      (λ (more : 10 ^ 38 ≤ n / 10). let m_is = was.1 more in with_digit_past m (48 + n % 10) (omega (arith, m_is)))
      (below_or (n / 10) (10 ^ 38)),
)

read_numeral : (n : ℕ) → ReadAs n (number_in (numeral n))
read_numeral = numeral_by_steps (λ n ds. ReadAs n (number_after 0 ds))
    (λ n small. let w = with_digit_is 0 (48 + n) (omega arith) in (λ less. omega (arith, w), λ past. absurd (omega (arith, small, past))))
    (λ n ds large was. let P : ℕ → Type 0 = ReadAs n in subst P (sym (read_push 0 ds (48 + n % 10))) (read_step n (number_after 0 ds) large was))

held_above : (n m : ℕ) → ReadAs n m → IsHeldAs (pos n) (pos m)
held_above n m like = ⊎_elim
    (λ (less : n < 10 ^ 38). inl (ap pos (sym (like.0 less))))
    (λ (past : 10 ^ 38 ≤ n). let m_is = like.1 past in inr (less_true (2 ^ 126) n (omega (arith, past)), less_true (2 ^ 126) m (omega (arith, m_is)), signs n m))
    (below_or n (10 ^ 38))
  where
    signs : (n m : ℕ) → int_lt (pos n) (pos 0) ≡ int_lt (pos m) (pos 0)
    signs n m = grind (arith, ints)

held_below : (n m : ℕ) → ReadAs (suc n) m → IsHeldAs (negsuc n) (neg_ℤ (pos m))
held_below n m like = ⊎_elim
    (λ (less : suc n < 10 ^ 38). inl (ap (λ k. neg_ℤ (pos k)) (sym (like.0 less))))
    (λ (past : 10 ^ 38 ≤ suc n). subst (λ (k : ℕ). IsHeldAs (negsuc n) (neg_ℤ (pos k))) (sym (like.1 past)) (inr (less_true (2 ^ 126) (suc n) (omega (arith, past)), refl, signs n)))
    (below_or (suc n) (10 ^ 38))
  where
    signs : (n : ℕ) → int_lt (negsuc n) (pos 0) ≡ int_lt (neg_ℤ (pos (10 ^ 38))) (pos 0)
    signs n = grind (arith, ints)

pub whole_held : (z : ℤ) → IsHeldAs z (read_whole z)
whole_held (pos n) = subst (λ (h : ℤ). IsHeldAs (pos n) h) (sym (whole_digits (numeral n) (numeral_digits n))) (held_above n (number_in (numeral n)) (read_numeral n))
whole_held (negsuc n) = held_below n (number_in (numeral (suc n))) (read_numeral (suc n))

pub wholes_held : (zs : List ℤ) → AreHeldAs zs (map read_whole zs)
wholes_held [] = tt
wholes_held (z ∷ zs) = (whole_held z, wholes_held zs)
