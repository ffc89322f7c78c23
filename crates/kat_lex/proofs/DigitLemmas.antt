-- Numbers that are read digit by digit.
use Rattle.std.proofs.Common.{◌≡◌, ℕ, ◌+◌, ◌-◌, ◌*◌, ◌<◌, ◌≤◌, Bool, true, List, length, drop, take, get_or, refl, sym, ◌∙◌, ap, subst, inl, inr, arith, length-drop}
use Rattle.std.proofs.lemmas.Bool.{cases_lt}
use Rattle.std.proofs.lemmas.List.{get_or-drop}
use Rattle.std.specs.Prelude.{slice_range}
use Rattle.std.specs.Str.Parse.{digits_value}
use Rattle.kat_num.specs.Bytes.{is_digit}
use Rattle.kat_num.specs.Values.{IsNumber}
use Rattle.kat_num.specs.declared.values.TheConstants.{NUMBER_LIMIT}
use Rattle.kat_num.proofs.Decimals.{digits_value-next}
use Rattle.kat_lex.specs.Classes.{byte_at}
use Rattle.kat_lex.specs.Found.{IsCapped}
use Rattle.kat_lex.specs.Pieces.{IsDigits}
use Rattle.kat_lex.proofs.PieceLemmas.{digits_are_number}

pub capped_stays : (exact value digit : ℕ) → NUMBER_LIMIT < value → IsCapped exact value → IsCapped (exact * 10 + digit) value
capped_stays exact value digit past (inl same) = inr (past, omega arith)
capped_stays exact value digit past (inr both) = inr (past, omega (arith, both))

pub capped_more : (exact value digit : ℕ) → value ≤ NUMBER_LIMIT → IsCapped exact value → IsCapped (exact * 10 + digit) (value * 10 + digit)
capped_more exact value digit few (inl same) = inl (ap (λ n. n * 10 + digit) same)
capped_more exact value digit few (inr both) = absurd (omega (arith, both))

pub next_at : (from to : ℕ) → from ≤ to → to + 1 - from ≡ to - from + 1
next_at from to l = omega arith

place_in : (from to n m : ℕ) → from ≤ to → to < n → m ≡ n - from → to - from < m
place_in from to n m l h e = omega arith

place_back : (from to : ℕ) → from ≤ to → from + (to - from) ≡ to
place_back from to l = omega arith

-- the slice up to the next byte
pub slice_next : (text : List ℕ) (from to : ℕ) → from ≤ to → slice_range text from (to + 1) ≡ take (to - from + 1) (drop from text)
slice_next text from to l = ap (λ n. take n (drop from text)) (next_at from to l)

pub byte_in : (text : List ℕ) (from to : ℕ) → from ≤ to → get_or (drop from text) (to - from) 0 ≡ byte_at text to
byte_in text from to l = get_or-drop from text (to - from) 0 ∙ ap (λ k. get_or text k 0) (place_back from to l)

pub place_within : (text : List ℕ) (from to : ℕ) → from ≤ to → to < length text → to - from < length (drop from text)
place_within text from to l h = place_in from to (length text) (length (drop from text)) l h (length-drop from text)

pub digits_more : (text : List ℕ) (from to : ℕ) → from ≤ to → to < length text → is_digit (byte_at text to) ≡ true
    → digits_value 10 (slice_range text from to) * 10 + (byte_at text to - 48) ≡ digits_value 10 (slice_range text from (to + 1))
digits_more text from to l h digit =
    let b = byte_in text from to l in
    let one : is_digit (get_or (drop from text) (to - from) 0) ≡ true = subst (λ byte. is_digit byte ≡ true) (sym b) digit in
    ap (λ byte. digits_value 10 (slice_range text from to) * 10 + (byte - 48)) (sym b)
    ∙ digits_value-next (drop from text) (to - from) (digits_value 10 (slice_range text from to)) (place_within text from to l h) one refl
    ∙ ap (λ (digits : List ℕ). digits_value 10 digits) (sym (slice_next text from to l))

-- a number within the limit is the one that the digits write
pub capped_is : (text : List ℕ) (from to value : ℕ) → from < length text → IsDigits text from to → IsCapped (digits_value 10 (slice_range text from to)) value
    → value ≤ NUMBER_LIMIT → IsNumber (slice_range text from to) value
capped_is text from to value inside digits (inl same) few =
    subst (λ n. IsNumber (slice_range text from to) n) (sym same)
    (digits_are_number text from to inside digits (subst (λ n. n ≤ NUMBER_LIMIT) same few))
capped_is text from to value inside digits (inr both) few = absurd (omega (arith, both))

pub capped_past : (exact value : ℕ) → IsCapped exact value → NUMBER_LIMIT < value → NUMBER_LIMIT < exact
capped_past exact value (inl same) past = subst (λ n. NUMBER_LIMIT < n) same past
capped_past exact value (inr both) past = both.1

-- what passes up to a place and there passes up to the next one
pub each_next : (passes : ℕ → Bool) (text : List ℕ) (from to : ℕ) → ((at : ℕ) → from ≤ at → at < to → passes (byte_at text at) ≡ true)
    → passes (byte_at text to) ≡ true → (at : ℕ) → from ≤ at → at < to + 1 → passes (byte_at text at) ≡ true
each_next passes text from to each last at low high =
    elim (cases_lt at to) [
      | inl h ↦ each at low h
      | inr h ↦ let same : at ≡ to = omega arith in rw same last
    ]
