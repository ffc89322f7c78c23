-- Values as they are passed.
use Rattle.std.proofs.Common.{◌≡◌, ℕ, zero, suc, ◌<◌, ◌≤◌, Bool, true, false, cond, ltb, List, [], ◌∷◌, ◌++◌, length, take, drop, replicate, refl, sym, ◌∙◌, ap, subst, eqb, arith, None, Some}
use Rattle.std.proofs.lemmas.Bool.Decides.{nat_tests}
use Rattle.std.proofs.lemmas.List.{length-replicate, length-take-le, take_all}
use Rattle.std.proofs.lemmas.List.Sums.{take_while-cons}
use Rattle.std.specs.List.{position, position_or_len, take_while}
use Rattle.kat_num.specs.Names.{IsName, IsNameCode, code_of, low_bytes, name_of_code}
use Rattle.kat_num.specs.declared.names.TheConstants.{NAME_LIMIT}
use Rattle.kat_num.specs.One.{IsTheOne}
use Rattle.kat_num.specs.declared.values.Sort.TheVariants as sort
use Rattle.kat_num.specs.declared.values.Value.{Value}
use Rattle.kat_num.specs.declared.values.Value.TheVariants as value
use Rattle.kat_num.proofs.NameCodes.{name_of_code-code_of, name_whole, not_zero}
use Rattle.kat_embed.specs.Passing.{IsPassed, before_zero}
use Rattle.kat_embed.specs.declared.passing.TaggedValue.{TaggedValue}

-- the bytes before the first zero
pub place_some : (n m : ℕ) (b : Bool) → cond b (Some n) None ≡ Some m → n ≡ m
place_some n m true e = cc
place_some n m false e = absurd cc

pub place_less : (n m size : ℕ) (b : Bool) → ltb n size ≡ b → cond b (Some n) None ≡ Some m → n < size
place_less n m size true is e = grind (arith, nat_tests)
place_less n m size false is e = absurd cc

pub before_some : (bytes : List ℕ) (count : ℕ) → position (λ byte. eqb byte 0) bytes ≡ Some count → take count bytes ≡ before_zero bytes
before_some bytes count e =
    ap (λ n. take n bytes) (sym (place_some (position_or_len (λ byte. eqb byte 0) bytes) count (ltb (position_or_len (λ byte. eqb byte 0) bytes) (length bytes)) e))

pub place_none : (n m : ℕ) (b : Bool) → ltb n m ≡ b → cond b (Some n) None ≡ None → m ≤ n
place_none n m true is e = absurd cc
place_none n m false is e = grind (arith, nat_tests)

pub before_none : (bytes : List ℕ) → position (λ byte. eqb byte 0) bytes ≡ None → bytes ≡ before_zero bytes
before_none bytes e = sym (take_all (position_or_len (λ byte. eqb byte 0) bytes) bytes (place_none (position_or_len (λ byte. eqb byte 0) bytes) (length bytes) (ltb (position_or_len (λ byte. eqb byte 0) bytes) (length bytes)) refl e))

-- a name that is passed, and its code
named_so : (bytes : List ℕ) (code : ℕ) → bytes ≡ name_of_code code → IsNameCode code → IsName bytes × (code_of bytes ≡ code)
named_so bytes code e is =
    let same : bytes ≡ is.name = e ∙ ap name_of_code (sym is.coded) ∙ name_of_code-code_of is.name is.is_name in
    (subst IsName (sym same) is.is_name, ap code_of same ∙ is.coded)

name_alone : (passed : TaggedValue) (code : ℕ) → code ≡ code_of (before_zero passed.name) → (v : Value) → IsPassed sort.Name passed v → v ≡ value.Name code
name_alone passed code e (value.Bool truth) h = absurd h.1.fits
name_alone passed code e (value.Num z) h = absurd h.1.fits
name_alone passed code e (value.Name other) h = ap value.Name (sym (e ∙ (named_so (before_zero passed.name) other h.0.1 h.1.named).1))

pub name_one : (passed : TaggedValue) (bytes : List ℕ) (code : ℕ) → passed.kind ≡ 2 → bytes ≡ before_zero passed.name → IsName bytes × (code ≡ code_of bytes)
    → IsTheOne (IsPassed sort.Name passed) (Some (value.Name code))
name_one passed bytes code kind same is =
    let there : bytes ≡ name_of_code code = sym (name_of_code-code_of bytes is.0) ∙ ap name_of_code (sym is.1) in (
      ((kind, sym same ∙ there), record { fits = tt; named = record { name = bytes; is_name = is.0; coded = sym is.1 }; within = tt }),
      name_alone passed code (is.1 ∙ ap code_of same),
    )

pub name_none : (passed : TaggedValue) (bytes : List ℕ) → bytes ≡ before_zero passed.name → (IsName bytes → ⊥) → (v : Value) → IsPassed sort.Name passed v → ⊥
name_none passed bytes same none (value.Bool truth) h = h.1.fits
name_none passed bytes same none (value.Num z) h = h.1.fits
name_none passed bytes same none (value.Name code) h = none (subst IsName (sym same) (named_so (before_zero passed.name) code h.0.1 h.1.named).0)

-- the bytes of a name, and zeros after it
zeros_stop : (n k : ℕ) → take_while not_zero (drop k (replicate n 0)) ≡ []
zeros_stop zero zero = refl
zeros_stop zero (suc k) = refl
zeros_stop (suc n) zero = take_while-cons not_zero 0 (replicate n 0)
zeros_stop (suc n) (suc k) = zeros_stop n k

front_stops : (b : Bool) (byte : ℕ) (bytes rest : List ℕ) → not_zero byte ≡ b → take_while not_zero rest ≡ [] → take_while not_zero (bytes ++ rest) ≡ bytes
    → take_while not_zero (cond b (byte ∷ bytes) [] ++ rest) ≡ cond b (byte ∷ bytes) []
front_stops true byte bytes rest is ends h = rw (take_while-cons not_zero byte (bytes ++ rest), is, h) refl
front_stops false byte bytes rest is ends h = ends

stops : (bytes rest : List ℕ) → take_while not_zero rest ≡ [] → take_while not_zero (take_while not_zero bytes ++ rest) ≡ take_while not_zero bytes
stops [] rest ends = ends
stops (byte ∷ bytes) rest ends =
    rw (take_while-cons not_zero byte bytes) (front_stops (not_zero byte) byte (take_while not_zero bytes) rest refl ends (stops bytes rest ends))

name_stops : (code k : ℕ) → before_zero (name_of_code code ++ drop k (replicate 16 0)) ≡ name_of_code code
name_stops code k = rw (name_whole code) (stops (low_bytes NAME_LIMIT code) (drop k (replicate 16 0)) (zeros_stop 16 k))

pub name_padded : (bytes name : List ℕ) (code : ℕ) → bytes ≡ name_of_code code → name ≡ bytes ++ drop (length bytes) (replicate 16 0) → before_zero name ≡ name_of_code code
name_padded bytes name code same e =
    ap before_zero e ∙ subst (λ (bs : List ℕ). before_zero (bs ++ drop (length bs) (replicate 16 0)) ≡ name_of_code code) (sym same) (name_stops code (length (name_of_code code)))

pub room_for : (n : ℕ) → n ≤ 15 → length (take n (replicate {A = ℕ} 16 0)) ≡ n
room_for n h = length-take-le n (replicate {A = ℕ} 16 0) (omega (arith, h, length-replicate {A = ℕ} 16 0))
