-- A name and its code.
use Rattle.std.proofs.Common.{◌≡◌, ℕ, zero, suc, ◌+◌, ◌-◌, ◌*◌, ◌/◌, ◌%◌, ◌^◌, ◌<◌, ◌≤◌, Bool, true, false, not, ◌&&◌, List, [], ◌∷◌, ◌++◌, length, refl, ap, sym, subst, ◌∙◌, arith, length-append, append_assoc, Option, Some, None, eqb}
use Rattle.std.proofs.Common.{pow_pos}
use Rattle.std.proofs.Math.Nat.{pow-suc, mul-add-div_right}
use Rattle.kat_num.proofs.Codes.{power_of_two}
use Rattle.std.proofs.lemmas.Nat.{div-mul-add, mul-le}
use Rattle.std.proofs.lemmas.List.Sums.{take_while-cons}
use Rattle.std.proofs.lemmas.Bool.Decides.{nat_tests}
use Rattle.std.proofs.lemmas.List.{length-replicate}
use Rattle.std.specs.Prelude.{replicate, ◌==◌}
use Rattle.std.specs.List.{list_all, take_while}
use Rattle.std.specs.Option.{SomeIff, option_eq}
use Rattle.kat_num.specs.Bytes.{is_name_byte}
use Rattle.kat_num.specs.Names.{IsName, IsNameCode, big_endian, code_of, low_bytes, name_of_code}
use Rattle.kat_num.specs.declared.names.TheConstants.{NAME_LIMIT}

abbrev pub not_zero : ℕ → Bool
not_zero byte = not (byte == 0)

-- each is a byte
abbrev pub AreBytes : List ℕ → Type 0
AreBytes [] = Unit {0}
AreBytes (byte ∷ bytes) = (byte < 256) × AreBytes bytes

-- a byte of a name is one, and not zero
pub name_byte : (byte : ℕ) → is_name_byte byte ≡ true → (byte < 256) × (not_zero byte ≡ true)
name_byte byte h = (grind (arith, nat_tests), grind (arith, nat_tests))

pub and_parts : (a b : Bool) → (a && b) ≡ true → (a ≡ true) × (b ≡ true)
and_parts true b h = (refl, h)
and_parts false b h = absurd (cc)

pub AreBytes-padded : (name : List ℕ) (n : ℕ) → list_all is_name_byte name ≡ true → AreBytes (name ++ replicate n 0)
AreBytes-padded [] zero h = tt
AreBytes-padded [] (suc n) h = (omega arith, AreBytes-padded [] n h)
AreBytes-padded (byte ∷ name) n h =
    let parts = and_parts _ _ h in
    ((name_byte byte parts.0).0, AreBytes-padded name n parts.1)

pub big_endian-lt : (bytes : List ℕ) → AreBytes bytes → big_endian bytes < 256 ^ length bytes
big_endian-lt [] h = omega arith
big_endian-lt (byte ∷ bytes) h =
    let below = big_endian-lt bytes h.1 in
    let first : byte * 256 ^ length bytes ≤ 255 * 256 ^ length bytes = mul-le byte (256 ^ length bytes) 255 (256 ^ length bytes) (omega (arith, h.0)) (omega arith) in
    rw (pow-suc 256 (length bytes)) (omega arith)

positive : (n : ℕ) → zero < 256 ^ n
positive n = rw (power_of_two n) (pow_pos (8 * n))

-- a number below the divisor adds nothing to the quotient
quotient : (n high low : ℕ) → low < 256 ^ n → (high * 256 ^ n + low) / 256 ^ n ≡ high
quotient n high low h = div-mul-add high (256 ^ n) low h

-- the low bytes do not see what is above them
pub low_bytes-above : (n high low : ℕ) → low_bytes n (high * 256 ^ n + low) ≡ low_bytes n low
unfolding low_bytes
low_bytes-above zero high low = refl
low_bytes-above (suc n) high low =
    let turned : high * 256 ^ suc n + low ≡ (high * 256) * 256 ^ n + low = rw (pow-suc 256 n) (omega arith) in
    let divided : ((high * 256) * 256 ^ n + low) / 256 ^ n ≡ high * 256 + low / 256 ^ n = mul-add-div_right {m = 256 ^ n} (positive n) (high * 256) low in
    let head : (high * 256 ^ suc n + low) / 256 ^ n % 256 ≡ low / 256 ^ n % 256 = rw (turned, divided) (omega arith) in
    let tail : low_bytes n (high * 256 ^ suc n + low) ≡ low_bytes n low = rw turned (low_bytes-above n (high * 256) low) in
    rw (head, tail) refl

-- the bytes that a number was made of
pub low_bytes-big_endian : (bytes : List ℕ) (n : ℕ) → n ≡ length bytes → AreBytes bytes → low_bytes n (big_endian bytes) ≡ bytes
unfolding low_bytes
low_bytes-big_endian [] zero e h = refl
low_bytes-big_endian [] (suc n) e h = absurd (omega arith)
low_bytes-big_endian (byte ∷ bytes) zero e h = absurd (omega arith)
low_bytes-big_endian (byte ∷ bytes) (suc n) e h =
    let same : n ≡ length bytes = omega arith in
    let below : big_endian bytes < 256 ^ n = rw same (big_endian-lt bytes h.1) in
    let divided : (byte * 256 ^ n + big_endian bytes) / 256 ^ n ≡ byte = quotient n byte (big_endian bytes) below in
    let head : (byte * 256 ^ n + big_endian bytes) / 256 ^ n % 256 ≡ byte = rw divided (omega (arith, h.0)) in
    let tail : low_bytes n (byte * 256 ^ n + big_endian bytes) ≡ bytes = low_bytes-above n byte (big_endian bytes) ∙ low_bytes-big_endian bytes n same h.1 in
    rw (← same, head, tail) refl

-- the bytes of a name come before its padding
names_stop : (name : List ℕ) (n : ℕ) → list_all is_name_byte name ≡ true → take_while not_zero (name ++ replicate n 0) ≡ name
names_stop [] zero h = refl
names_stop [] (suc n) h = take_while-cons not_zero 0 (replicate n 0)
names_stop (byte ∷ name) n h =
    let parts = and_parts _ _ h in
    rw (take_while-cons not_zero byte (name ++ replicate n 0), (name_byte byte parts.0).1, names_stop name n parts.1) refl

-- the name with a name's code is that name
pub name_of_code-code_of : (name : List ℕ) → IsName name → name_of_code (code_of name) ≡ name
unfolding name_of_code
name_of_code-code_of name h =
    let padded : List ℕ = name ++ replicate (NAME_LIMIT - length name) 0 in
    let whole : NAME_LIMIT ≡ length padded = omega (arith, h.short, length-append name (replicate (NAME_LIMIT - length name) 0), length-replicate {A = ℕ} (NAME_LIMIT - length name) 0) in
    rw (low_bytes-big_endian padded NAME_LIMIT whole (AreBytes-padded name (NAME_LIMIT - length name) h.each), names_stop name (NAME_LIMIT - length name) h.each) refl

-- what a name's code says of the bytes read from it
not_that : (name : List ℕ) (code : ℕ) (answer : Option ℕ) → SomeIff answer (IsName name) (code_of name) → IsName name → code_of name ≡ code
    → option_eq eqb answer (Some code) ≡ false → ⊥
not_that name code None h is e differ = h is
not_that name code (Some x) h is e differ = grind (arith, nat_tests, h.1)

pub no_name : (name : List ℕ) (code : ℕ) (answer : Option ℕ) → name ≡ name_of_code code → SomeIff answer (IsName name) (code_of name)
    → option_eq eqb answer (Some code) ≡ false → IsNameCode code → ⊥
no_name name code answer read h differ is =
    let same : name ≡ is.name = read ∙ ap name_of_code (sym is.coded) ∙ name_of_code-code_of is.name is.is_name in
    not_that name code answer h (subst IsName (sym same) is.is_name) (ap code_of same ∙ is.coded) differ

-- the next byte of the name, and the end at the padding
pub name_step : (left code byte : ℕ) (name : List ℕ) → zero < left → byte ≡ code / 256 ^ (left - 1) % 256 → (byte ≡ 0 → ⊥)
    → name ++ take_while not_zero (low_bytes left code) ≡ (name ++ byte ∷ []) ++ take_while not_zero (low_bytes (left - 1) code)
unfolding low_bytes
name_step zero code byte name h e differ = absurd (omega arith)
name_step (suc left) code byte name h e differ =
    let less : suc left - 1 ≡ left = omega arith in
    let here : code / 256 ^ left % 256 ≡ byte = rw (← less) (sym e) in
    let passes : not_zero byte ≡ true = grind (arith, nat_tests) in
    rw (less, here, take_while-cons not_zero byte (low_bytes left code), passes, append_assoc name (byte ∷ []) (take_while not_zero (low_bytes left code))) refl

pub name_end : (left code : ℕ) → zero < left → zero ≡ code / 256 ^ (left - 1) % 256 → take_while not_zero (low_bytes left code) ≡ []
unfolding low_bytes
name_end zero code h e = absurd (omega arith)
name_end (suc left) code h e =
    let less : suc left - 1 ≡ left = omega arith in
    let here : code / 256 ^ left % 256 ≡ zero = rw (← less) (sym e) in
    rw (here, take_while-cons not_zero zero (low_bytes left code)) refl

pub name_none : (code : ℕ) → take_while not_zero (low_bytes zero code) ≡ []
unfolding low_bytes
name_none code = refl

pub name_whole : (code : ℕ) → name_of_code code ≡ take_while not_zero (low_bytes NAME_LIMIT code)
unfolding name_of_code
name_whole code = refl
