-- Numbers and their digits.
use Rattle.std.proofs.Common.{◌≡◌, ℕ, ◌+◌, ◌-◌, ◌*◌, ◌<◌, ◌≤◌, true, List, [], ◌∷◌, length, take, get_or, refl, arith}
use Rattle.std.proofs.lemmas.Bool.Decides.{nat_tests}
use Rattle.std.proofs.lemmas.Fmt.{decimal_is_IsNumeral}
use Rattle.std.proofs.lemmas.Int.Digits.{digits_value_more}
use Rattle.std.proofs.lemmas.Str.Parse.{digits_value-take-le, digit_from_value}
use Rattle.std.specs.Char.{digit_value}
use Rattle.std.specs.Fmt.{decimal}
use Rattle.std.specs.List.{list_all}
use Rattle.std.specs.Str.Parse.{digits_value, AllDigits}
use Rattle.kat_num.specs.Bytes.{is_digit}
use Rattle.kat_num.specs.Values.{IsNumber}
use Rattle.kat_num.specs.declared.values.TheConstants.{NUMBER_LIMIT}

digit_value-is : (byte : ℕ) → is_digit byte ≡ true → digit_value byte ≡ byte - 48
digit_value-is byte h = grind (arith, nat_tests)

-- the value grows by the next digit
pub digits_value-next : (digits : List ℕ) (i value : ℕ) → i < length digits → is_digit (get_or digits i 0) ≡ true
    → value ≡ digits_value 10 (take i digits) → value * 10 + (get_or digits i 0 - 48) ≡ digits_value 10 (take (i + 1) digits)
digits_value-next digits i value in_range h e =
    rw (digits_value_more 10 digits i in_range, digit_value-is (get_or digits i 0) h, e) refl

-- digits that begin with a number past the limit are no number
pub past_limit : (digits : List ℕ) (i front : ℕ) → front ≡ digits_value 10 (take i digits) → NUMBER_LIMIT < front
    → (n : ℕ) → IsNumber digits n → ⊥
past_limit digits i front e past n number =
    let less : digits_value 10 (take i digits) ≤ digits_value 10 digits = digits_value-take-le 10 digits i (omega arith) in
    omega (arith, number.value, number.small)

all_digits : (digits : List ℕ) → AllDigits 10 digits → list_all is_digit digits ≡ true
all_digits [] h = refl
all_digits (byte ∷ digits) h =
    let range = digit_from_value byte h.0 in
    let first : is_digit byte ≡ true = grind (arith, nat_tests) in
    rw (first) (all_digits digits h.1)

-- a printed number is a number of this value
pub decimal-is_number : (n : ℕ) → n ≤ NUMBER_LIMIT → IsNumber (decimal n) n
decimal-is_number n small =
    let numeral = decimal_is_IsNumeral n (omega arith) in
    record { some = numeral.0.0; each = all_digits (decimal n) numeral.0.1; value = numeral.1; small = small }
