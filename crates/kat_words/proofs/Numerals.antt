-- Numbers in std's words, and by a test.
use Rattle.std.proofs.Common.{◌≡◌, ℕ, ◌<◌, ◌≤◌, ◌^◌, true, ◌&&◌, nat_le, nat_lt, List, [], ◌∷◌, length, refl, ap, ◌∙◌, sym, arith, Option, Some, None, Result, Ok, Err, subst}
use Rattle.std.specs.Char.{digit_value}
use Rattle.std.specs.List.{list_all}
use Rattle.std.specs.Result.{OkIff}
use Rattle.std.specs.Str.Parse.{AllDigits, IsNumeral, digits_value}
use Rattle.std.proofs.lemmas.Bool.{and_parts, and_from, cond-true, cond-false, false_from_ne_true, le-leb, leb-true, lt-ltb, ltb-true}
use Rattle.std.proofs.lemmas.Result.{OkIff-at_ok, OkIff-at_err}
use Rattle.kat_words.specs.Words.{is_number, number_in}

digits_pass : (ds : List ℕ) → AllDigits 10 ds → list_all (λ (digit : ℕ). nat_lt (digit_value digit) 10) ds ≡ true
digits_pass [] h = refl
digits_pass (c ∷ cs) h = and_from _ _ (lt-ltb (digit_value c) 10 h.0) (digits_pass cs h.1)

pass_digits : (ds : List ℕ) → list_all (λ (digit : ℕ). nat_lt (digit_value digit) 10) ds ≡ true → AllDigits 10 ds
pass_digits [] h = tt
pass_digits (c ∷ cs) h = let parts = and_parts _ _ h in (ltb-true (digit_value c) 10 parts.0, pass_digits cs parts.1)

number_at : (digits : List ℕ) (least most : ℕ) → IsNumeral 10 digits → least ≤ digits_value 10 digits → digits_value 10 digits ≤ most
    → ◌≡◌ {A = Option ℕ} (number_in least most digits) (Some (digits_value 10 digits))
number_at digits least most numeral low high =
    cond-true _ _ _ (and_from _ _ (and_from _ _ (and_from _ _ (lt-ltb 0 (length digits) numeral.0) (digits_pass digits numeral.1)) (le-leb least (digits_value 10 digits) low)) (le-leb (digits_value 10 digits) most high))

pub number_some : {E : Type 0} (digits : List ℕ) (least most n : ℕ) (r : Result ℕ E) → OkIff r (IsNumeral 10 digits × (digits_value 10 digits < 2 ^ 64)) (digits_value 10 digits)
    → r ≡ Ok n → least ≤ n → n ≤ most → ◌≡◌ {A = Option ℕ} (Some n) (number_in least most digits)
number_some digits least most n r iff is low high =
    let read = OkIff-at_ok r _ _ n iff is in
    ap Some read.1 ∙ sym (number_at digits least most read.0.0 (subst (λ (k : ℕ). least ≤ k) read.1 low) (subst (λ (k : ℕ). k ≤ most) read.1 high))

pub number_none : {E : Type 0} (digits : List ℕ) (least most : ℕ) (e : E) (r : Result ℕ E) → OkIff r (IsNumeral 10 digits × (digits_value 10 digits < 2 ^ 64)) (digits_value 10 digits)
    → r ≡ Err e → most < 2 ^ 64 → ◌≡◌ {A = Option ℕ} None (number_in least most digits)
number_none digits least most e r iff is fits =
    sym (cond-false (is_number digits && nat_le least (digits_value 10 digits) && nat_le (digits_value 10 digits) most) (Some (digits_value 10 digits)) None
    (false_from_ne_true _ (λ passes.
    let outer = and_parts (is_number digits && nat_le least (digits_value 10 digits)) _ passes in
    let inner = and_parts (is_number digits) _ outer.0 in
    let digit = and_parts (nat_lt 0 (length digits)) _ inner.0 in
    let high : digits_value 10 digits ≤ most = leb-true _ _ outer.1 in
    OkIff-at_err r _ _ e iff is ((ltb-true 0 (length digits) digit.0, pass_digits digits digit.1), omega (arith, high, fits)))))
