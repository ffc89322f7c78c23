-- Values that a file can have, by their test.
use Rattle.std.proofs.Common.{◌≡◌, ◌^◌, ◌-◌, Bool, true, false, refl, sym, ap, ◌∙◌, arith}
use Rattle.std.specs.Prelude.{◌==◌, ◌&&◌, ◌≤ℤ◌, ℤ, int_lt, neg_ℤ, not, pos}
use Rattle.std.specs.List.{list_all}
use Rattle.std.proofs.lemmas.Bool.{eq-eqb, eqb-true}
use Rattle.std.proofs.lemmas.Int.{ints}
use Rattle.kat_num.specs.Bytes.{is_name_byte}
use Rattle.kat_num.specs.Names.{code_of, name_of_code}
use Rattle.kat_num.specs.declared.values.Value.{Value}
use Rattle.kat_num.specs.declared.values.Value.TheVariants as value
use Rattle.kat_num.proofs.NameCodes.{name_of_code-code_of}
use Rattle.kat_design.proofs.ShortNames.{name_short}
use Rattle.kat_design.specs.Faults.{is_written}
use Rattle.kat_design.specs.Sorted.{IsWritten}
use Rattle.kat_design.proofs.Accepted.{and_left, and_right}

pub and_both : (a b : Bool) → a ≡ true → b ≡ true → a && b ≡ true
and_both a b e k = ap (λ c. c && b) e ∙ k

least : (z : ℤ) (b : Bool) → int_lt z (neg_ℤ (pos (2 ^ 63))) ≡ b → not b ≡ true → neg_ℤ (pos (2 ^ 63)) ≤ℤ z
least z true e h = absurd (cc)
least z false e h = grind (arith, ints)

most : (z : ℤ) → int_lt z (pos (2 ^ 64)) ≡ true → z ≤ℤ pos (2 ^ 64 - 1)
most z e = grind (arith, ints)

pub written_value : (v : Value) → is_written v ≡ true → IsWritten v
written_value (value.Bool b) e = tt
written_value (value.Num z) e = (
  least z (int_lt z (neg_ℤ (pos (2 ^ 63)))) refl (and_left (not (int_lt z (neg_ℤ (pos (2 ^ 63))))) (int_lt z (pos (2 ^ 64))) e),
  most z (and_right (not (int_lt z (neg_ℤ (pos (2 ^ 63))))) (int_lt z (pos (2 ^ 64))) e),
)
written_value (value.Name code) e = record {
  name = name_of_code code;
  is_name = record { short = name_short code; each = and_left (list_all is_name_byte (name_of_code code)) (code_of (name_of_code code) == code) e };
  coded = eqb-true (code_of (name_of_code code)) code (and_right (list_all is_name_byte (name_of_code code)) (code_of (name_of_code code) == code) e);
}

-- the way back
not_less : (z : ℤ) (b : Bool) → int_lt z (neg_ℤ (pos (2 ^ 63))) ≡ b → neg_ℤ (pos (2 ^ 63)) ≤ℤ z → not b ≡ true
not_less z true e h = absurd (grind (arith, ints))
not_less z false e h = refl

is_less : (z : ℤ) → z ≤ℤ pos (2 ^ 64 - 1) → int_lt z (pos (2 ^ 64)) ≡ true
is_less z h = grind (arith, ints)

pub value_written : (v : Value) → IsWritten v → is_written v ≡ true
value_written (value.Bool b) h = refl
value_written (value.Num z) h =
    and_both (not (int_lt z (neg_ℤ (pos (2 ^ 63))))) (int_lt z (pos (2 ^ 64))) (not_less z (int_lt z (neg_ℤ (pos (2 ^ 63)))) refl h.0) (is_less z h.1)
value_written (value.Name code) h =
    let same : name_of_code code ≡ h.name = ap name_of_code (sym h.coded) ∙ name_of_code-code_of h.name h.is_name in
    and_both (list_all is_name_byte (name_of_code code)) (code_of (name_of_code code) == code)
    (ap (λ name. list_all is_name_byte name) same ∙ h.is_name.each)
    (eq-eqb (code_of (name_of_code code)) code (ap code_of same ∙ h.coded))
