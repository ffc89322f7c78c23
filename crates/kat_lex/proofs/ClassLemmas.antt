-- What the class of a byte says of it.
use Rattle.std.proofs.Common.{◌≡◌, ℕ, ◌<◌, ◌≤◌, Bool, true, cond, not, List, length, refl, arith, inl, inr}
use Rattle.std.proofs.lemmas.Bool.{cases_lt}
use Rattle.std.proofs.lemmas.List.{get_or_past}
use Rattle.std.proofs.lemmas.Bool.Decides.{nat_tests}
use Rattle.std.specs.Prelude.{◌==◌}
use Rattle.kat_num.specs.Bytes.{is_digit, is_word_byte, is_word_start}
use Rattle.kat_lex.specs.Classes.{byte_at, class_of, is_blank, is_double, is_sign}
use Rattle.kat_lex.specs.declared.classes.Class.{Class}
use Rattle.kat_lex.specs.declared.classes.Class.TheVariants.{Letter, Digit, Quote, Mark, LineEnd, Hash, Blank, Other}

abbrev picked : Bool → Bool → Bool → Bool → Bool → Bool → Bool → Class
picked letter digit quote mark end hash blank =
    cond letter Letter (cond digit Digit (cond quote Quote (cond mark Mark (cond end LineEnd (cond hash Hash (cond blank Blank Other))))))

picked_letter : (letter digit quote mark end hash blank : Bool) → picked letter digit quote mark end hash blank ≡ Letter → letter ≡ true
picked_letter letter digit quote mark end hash blank h = grind arith

picked_digit : (letter digit quote mark end hash blank : Bool) → picked letter digit quote mark end hash blank ≡ Digit → digit ≡ true
picked_digit letter digit quote mark end hash blank h = grind arith

picked_hash : (letter digit quote mark end hash blank : Bool) → picked letter digit quote mark end hash blank ≡ Hash → hash ≡ true
picked_hash letter digit quote mark end hash blank h = grind arith

pub letter_passes : (byte : ℕ) → class_of byte ≡ Letter → is_word_byte byte ≡ true
letter_passes byte h =
    let start : is_word_start byte ≡ true = picked_letter (is_word_start byte) (is_digit byte) (byte == 34) (is_sign byte) (byte == 10) (byte == 35) (is_blank byte) h in
    rw start refl

pub digit_passes : (byte : ℕ) → class_of byte ≡ Digit → is_digit byte ≡ true
digit_passes byte h = picked_digit (is_word_start byte) (is_digit byte) (byte == 34) (is_sign byte) (byte == 10) (byte == 35) (is_blank byte) h

pub hash_passes : (byte : ℕ) → class_of byte ≡ Hash → not (byte == 10) ≡ true
hash_passes byte h =
    let hash : (byte == 35) ≡ true = picked_hash (is_word_start byte) (is_digit byte) (byte == 34) (is_sign byte) (byte == 10) (byte == 35) (is_blank byte) h in
    grind (arith, nat_tests)

-- past the end the byte is 0
past_end : (text : List ℕ) (at : ℕ) → length text ≤ at → byte_at text at ≡ 0
past_end text at h = get_or_past text at 0 h

pub quote_inside : (text : List ℕ) (at : ℕ) → byte_at text at ≡ 34 → at < length text
quote_inside text at h =
    elim (cases_lt at (length text)) [
      | inl inside ↦ inside
      | inr past ↦ let none : byte_at text at ≡ 0 = past_end text at past in absurd (omega arith)
    ]

second_of_double : (first second : ℕ) → is_double first second ≡ true → 0 < second
second_of_double first second h = grind (arith, nat_tests)

pub double_inside : (text : List ℕ) (first at : ℕ) → is_double first (byte_at text at) ≡ true → at < length text
double_inside text first at h =
    elim (cases_lt at (length text)) [
      | inl inside ↦ inside
      | inr past ↦
          let none : byte_at text at ≡ 0 = past_end text at past in
          let some : 0 < byte_at text at = second_of_double first (byte_at text at) h in
          absurd (omega arith)
    ]
