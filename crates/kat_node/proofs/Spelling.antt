-- The bytes of a name, written one after the other into a room.
use Rattle.std.proofs.Common.{◌≡◌, ◌∙◌, ℕ, zero, ◌+◌, ◌-◌, ◌/◌, ◌%◌, ◌^◌, ◌<◌, ◌≤◌, ◌++◌, List, take, length, sym, ap, subst, arith, append-nil}
use Rattle.std.proofs.lemmas.List.{take_more_set}
use Rattle.std.specs.List.{take_while}
use Rattle.std.specs.Prelude.{set}
use Rattle.kat_num.proofs.NameCodes.{name_step, name_end, name_none, name_whole, not_zero}
use Rattle.kat_num.specs.Names.{name_of_code, low_bytes}

-- the bytes that are written so far, and what is left to spell
abbrev pub IsSpelled : ℕ → ℕ → List ℕ → Type 0
IsSpelled code left room = name_of_code code ≡ take (15 - left) room ++ take_while not_zero (low_bytes left code)

pub spelled_first : (code : ℕ) (room : List ℕ) → IsSpelled code 15 room
spelled_first code room = name_whole code

pub spelled_next : (code left byte : ℕ) (room : List ℕ) → IsSpelled code left room → zero < left → left ≤ 15 → length room ≡ 15 → byte ≡ code / 256 ^ (left - 1) % 256 → (byte ≡ 0 → ⊥)
    → IsSpelled code (left - 1) (set room (15 - left) byte)
spelled_next code left byte room so some most whole is other =
    let place : 15 - (left - 1) ≡ (15 - left) + 1 = omega arith in
    let inside : 15 - left < length room = omega arith in
    so ∙ name_step left code byte (take (15 - left) room) some is other
    ∙ ap (λ front. front ++ take_while not_zero (low_bytes (left - 1) code)) (sym (take_more_set room (15 - left) byte inside) ∙ ap (λ n. take n (set room (15 - left) byte)) (sym place))

pub spelled_end : (code left byte : ℕ) (room : List ℕ) → IsSpelled code left room → zero < left → byte ≡ code / 256 ^ (left - 1) % 256 → byte ≡ 0 → take (15 - left) room ≡ name_of_code code
spelled_end code left byte room so some is none =
    sym (so ∙ ap (λ rest. take (15 - left) room ++ rest) (name_end left code some (sym none ∙ is)) ∙ append-nil (take (15 - left) room))

pub spelled_all : (code left : ℕ) (room : List ℕ) → IsSpelled code left room → left ≡ 0 → take 15 room ≡ name_of_code code
spelled_all code left room so none =
    let last : name_of_code code ≡ take 15 room ++ take_while not_zero (low_bytes 0 code) = subst (λ n. IsSpelled code n room) none so in
    sym (last ∙ ap (λ rest. take 15 room ++ rest) (name_none code) ∙ append-nil (take 15 room))
