-- Bytes as the digits of a number to the base 256.
use Rattle.std.proofs.Common.{◌≡◌, ℕ, zero, suc, ◌+◌, ◌-◌, ◌*◌, ◌%◌, ◌^◌, ◌<◌, ◌≤◌, List, [], ◌∷◌, ◌++◌, length, take, get_or, refl, sym, arith, length-append, append_assoc, append-nil, add-one, add-zero, subst, ◌∙◌, ap}
use Rattle.std.proofs.lemmas.List.{replicate-append-replicate, take_all, take_more}
use Rattle.std.proofs.lemmas.Nat.{pow-add, shl_whole}
use Rattle.std.proofs.Math.Nat.{pow-suc, pow-le-pow_right}
use Rattle.std.specs.Prelude.{replicate}
use Rattle.kat_num.specs.Names.{big_endian, code_of}

-- one byte more at the end
pub big_endian-push : (bytes : List ℕ) (byte : ℕ) → big_endian (bytes ++ byte ∷ []) ≡ big_endian bytes * 256 + byte
big_endian-push [] byte = omega arith
big_endian-push (first ∷ bytes) byte =
    rw (big_endian-push bytes byte, length-append bytes (byte ∷ []), add-one, pow-suc 256 (length bytes)) (omega arith)

-- the next byte of a slice
pub big_endian-take : (bytes : List ℕ) (i code : ℕ) → i < length bytes → code ≡ big_endian (take i bytes)
    → code * 256 + get_or bytes i 0 ≡ big_endian (take (i + 1) bytes)
big_endian-take bytes i code in_range e =
    rw (take_more bytes i 0 in_range, big_endian-push (take i bytes) (get_or bytes i 0), e) refl

-- one byte of padding more
pub big_endian-pad : (bytes : List ℕ) (n m : ℕ) → m ≡ n + 1
    → big_endian (bytes ++ replicate m 0) ≡ big_endian (bytes ++ replicate n 0) * 256
big_endian-pad bytes n m e =
    let split : replicate (n + 1) 0 ≡ replicate n 0 ++ replicate 1 0 = sym (replicate-append-replicate {A = ℕ} n 1 0) in
    rw (e, split, ← append_assoc bytes (replicate n 0) (replicate 1 0), big_endian-push (bytes ++ replicate n 0) 0) (add-zero _)

-- few digits to the base 256 are a number of few bits
pub power_fits : (n : ℕ) → n ≤ 14 → 256 ^ n ≤ 2 ^ 112
power_fits n few = pow-le-pow_right {n = 256} (omega arith) few

-- the bound grows by the next byte
pub power_step : (n code byte : ℕ) → code < 256 ^ n → byte < 256 → code * 256 + byte < 256 ^ (n + 1)
power_step n code byte low small = rw (add-one, pow-suc 256 n) (omega arith)

-- padding multiplies by powers of 256
pub big_endian-padded : (bytes : List ℕ) (n : ℕ) → big_endian (bytes ++ replicate n 0) ≡ big_endian bytes * 256 ^ n
big_endian-padded bytes zero = rw append-nil (omega arith)
big_endian-padded bytes (suc n) =
    let e : suc n ≡ n + 1 = omega arith in
    rw (big_endian-pad bytes n (suc n) e, big_endian-padded bytes n, pow-suc 256 n) (omega arith)

-- a power of 256 is a power of 2
pub power_of_two : (n : ℕ) → 256 ^ n ≡ 2 ^ (8 * n)
power_of_two zero = refl
power_of_two (suc n) =
    let e : 8 * suc n ≡ 8 * n + 8 = omega arith in
    rw (pow-suc 256 n, power_of_two n, e, pow-add 2 (8 * n) 8) refl

eight_each : (n : ℕ) → n ≤ 15 → 8 * n + 8 * (15 - n) ≤ 128
eight_each n few = omega arith

-- the code of few bytes is their number, shifted by the padding
pub code-shifted : (bytes : List ℕ) (code : ℕ) → length bytes ≤ 15 → code ≡ big_endian bytes → code < 256 ^ length bytes
    → (code * 2 ^ (8 * (15 - length bytes))) % 2 ^ 128 ≡ code_of bytes
code-shifted bytes code few is small =
    let low : code < 2 ^ (8 * length bytes) = subst (λ n. code < n) (power_of_two (length bytes)) small in
    let whole : (code * 2 ^ (8 * (15 - length bytes))) % 2 ^ 128 ≡ code * 2 ^ (8 * (15 - length bytes)) =
    shl_whole code (8 * length bytes) (8 * (15 - length bytes)) 128 low (eight_each (length bytes) few) in
    whole ∙ ap (λ n. code * n) (sym (power_of_two (15 - length bytes))) ∙ ap (λ n. n * 256 ^ (15 - length bytes)) is ∙ sym (big_endian-padded bytes (15 - length bytes))

-- the same once all bytes are taken
pub code-taken : (bytes : List ℕ) (i code : ℕ) → length bytes ≤ 15 → i ≤ length bytes → length bytes ≤ i → code ≡ big_endian (take i bytes) → code < 256 ^ i
    → (code * 2 ^ (8 * (15 - length bytes))) % 2 ^ 128 ≡ code_of bytes
code-taken bytes i code few low high is small =
    let all : i ≡ length bytes = omega arith in
    code-shifted bytes code few (is ∙ ap (λ (taken : List ℕ). big_endian taken) (take_all i bytes high)) (subst (λ n. code < 256 ^ n) all small)
