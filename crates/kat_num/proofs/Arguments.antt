-- The texts of arguments.
use Rattle.std.proofs.Common.{◌≡◌, ℕ, suc, true, List, ◌∷◌, refl, ap, sym, ◌∙◌, arith, Option, Some, None, pos, negsuc}
use Rattle.std.specs.Prelude.{neg_ℤ}
use Rattle.std.proofs.lemmas.Int.{ints}
use Rattle.std.specs.Fmt.{decimal}
use Rattle.std.specs.List.{list_all}
use Rattle.kat_num.specs.Bytes.{is_digit}
use Rattle.kat_num.specs.One.{IsTheOne}
use Rattle.kat_num.specs.Names.{name_of_code}
use Rattle.kat_num.specs.Values.{IsArgument, IsArgumentText, IsNumber, quoted, value_text}
use Rattle.kat_num.specs.Values.IsWhole.{plain, minus}
use Rattle.kat_num.specs.declared.values.Sort.{Sort}
use Rattle.kat_num.specs.declared.values.Value.{Value}
use Rattle.kat_num.specs.declared.values.Sort.TheVariants.{Bool as OfBool, Int as OfInt, Nat as OfNat, Name as OfName}
use Rattle.kat_num.specs.declared.values.Value.TheVariants.{Bool as Truth, Num, Name}
use Rattle.kat_num.proofs.NameCodes.{name_of_code-code_of}
use Rattle.kat_num.proofs.Decimals.{decimal-is_number}

-- the only value of which the fact holds is any of which it does
pub the_one_is : {X : Type 0} (Fact : X → Type 0) (answer : Option X) → IsTheOne Fact answer → (value : X) → Fact value → answer ≡ Some value
the_one_is Fact None h value fact = absurd (h value fact)
the_one_is Fact (Some found) h value fact = ap Some (sym (h.1 value fact))

no_digit : (digits : List ℕ) (n : ℕ) → IsNumber (45 ∷ digits) n → ⊥
no_digit digits n number = let each : list_all is_digit (45 ∷ digits) ≡ true = number.each in cc

-- `-` and digits are a whole number if the digits are a number
pub minus_none : (digits : List ℕ) → ((n : ℕ) → IsNumber digits n → ⊥) → (value : Value) → IsArgumentText OfInt (45 ∷ digits) value → ⊥
minus_none digits none (Truth _) h = h
minus_none digits none (Name _) h = h
minus_none digits none (Num z) (plain n number e) = no_digit digits n number
minus_none digits none (Num z) (minus n others e number f) =
    let same : digits ≡ others = cc in none n (rw same number)

pub minus_some : (digits : List ℕ) (n : ℕ) → IsNumber digits n → ((m : ℕ) → IsNumber digits m → m ≡ n)
    → (value : Value) → IsArgumentText OfInt (45 ∷ digits) value → value ≡ Num (neg_ℤ (pos n))
minus_some digits n number one (Truth _) h = absurd h
minus_some digits n number one (Name _) h = absurd h
minus_some digits n number one (Num z) (plain m other e) = absurd (no_digit digits m other)
minus_some digits n number one (Num z) (minus m others e other f) =
    let same : digits ≡ others = cc in
    let equal : m ≡ n = one m (rw same other) in
    rw (f, equal) refl

-- without a `-` in front, a whole number is a number
pub whole_plain : (bytes : List ℕ) → ((digits : List ℕ) → bytes ≡ 45 ∷ digits → ⊥) → (value : Value)
    → IsArgumentText OfInt bytes value → IsArgumentText OfNat bytes value
whole_plain bytes none (Truth _) h = h
whole_plain bytes none (Name _) h = h
whole_plain bytes none (Num z) (plain n number e) = (n, number, e)
whole_plain bytes none (Num z) (minus n digits e number f) = absurd (none digits e)

nat_is_whole : (bytes : List ℕ) (value : Value) → IsArgumentText OfNat bytes value → IsArgumentText OfInt bytes value
nat_is_whole bytes (Truth _) h = h
nat_is_whole bytes (Name _) h = h
nat_is_whole bytes (Num z) h = plain h.0 h.1 h.2

pub whole_one : (bytes : List ℕ) → ((digits : List ℕ) → bytes ≡ 45 ∷ digits → ⊥) → (answer : Option Value)
    → IsTheOne (IsArgumentText OfNat bytes) answer → IsTheOne (IsArgumentText OfInt bytes) answer
whole_one bytes none None h = λ value text. h value (whole_plain bytes none value text)
whole_one bytes none (Some found) h =
    (nat_is_whole bytes found h.0, λ value text. h.1 value (whole_plain bytes none value text))

-- what is printed of an argument is a text of it
pub value_text-is_text : (sort : Sort) (value : Value) → IsArgument sort value → IsArgumentText sort (value_text value) value
value_text-is_text OfBool (Truth truth) h = refl
value_text-is_text OfBool (Num _) h = h.fits
value_text-is_text OfBool (Name _) h = h.fits
value_text-is_text OfInt (Truth _) h = h.fits
value_text-is_text OfInt (Num (pos n)) h = plain n (decimal-is_number n h.within) refl
value_text-is_text OfInt (Num (negsuc n)) h = minus (suc n) (decimal (suc n)) refl (decimal-is_number (suc n) h.within) refl
value_text-is_text OfInt (Name _) h = h.fits
value_text-is_text OfNat (Truth _) h = h.fits
value_text-is_text OfNat (Num (pos n)) h = (n, decimal-is_number n h.within, refl)
value_text-is_text OfNat (Num (negsuc n)) h = absurd (omega (arith, ints))
value_text-is_text OfNat (Name _) h = h.fits
value_text-is_text OfName (Truth _) h = h.fits
value_text-is_text OfName (Num _) h = h.fits
value_text-is_text OfName (Name code) h =
    let same : name_of_code code ≡ h.named.name = ap name_of_code (sym h.named.coded) ∙ name_of_code-code_of h.named.name h.named.is_name in
    (h.named.name, h.named.is_name, ap quoted same, h.named.coded)

pub read_again : (sort : Sort) (bytes : List ℕ) (answer : Option Value) → IsTheOne (IsArgumentText sort bytes) answer
    → (value : Value) → IsArgument sort value → bytes ≡ value_text value → answer ≡ Some value
read_again sort bytes answer one value fits e =
    the_one_is (IsArgumentText sort bytes) answer one value (rw e (value_text-is_text sort value fits))
