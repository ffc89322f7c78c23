-- What may begin with a byte.
use Rattle.std.specs.Prelude.{ℕ, Bool, ◌&&◌, ◌||◌, ◌==◌, codes, if◌then◌else◌, List, slice_index}
use Rattle.std.specs.List.{list_any}
use Rattle.kat_num.specs.Bytes.{is_digit, is_word_start}
use Rattle.kat_lex.specs.declared.classes.Class.{Class}
use Rattle.kat_lex.specs.declared.classes.Class.TheVariants.{Letter, Digit, Quote, Mark, LineEnd, Hash, Blank, Other}

-- space, tab and carriage return
abbrev pub is_blank : ℕ → Bool
is_blank byte = (byte == 32) || ((byte == 9) || (byte == 13))

-- the bytes that are signs by themselves
abbrev pub is_sign : ℕ → Bool
is_sign byte = list_any (λ sign. sign == byte) (codes "()[],:;=<+-")

-- the signs of two bytes: `<=`, `:=` and `->`
abbrev pub is_double : ℕ → ℕ → Bool
is_double first second = ((second == 61) && ((first == 60) || (first == 58))) || ((first == 45) && (second == 62))

-- each byte is of one class: it begins a word, a number, a name literal, a sign or a comment, it is a
-- newline or a blank, or nothing begins with it
abbrev pub class_of : ℕ → Class
class_of byte =
    if is_word_start byte then Letter
    else if is_digit byte then Digit
    else if byte == 34 then Quote
    else if is_sign byte then Mark
    else if byte == 10 then LineEnd
    else if byte == 35 then Hash
    else if is_blank byte then Blank
    else Other

-- the byte at a place of the text, and 0 past its end
abbrev pub byte_at : List ℕ → ℕ → ℕ
byte_at text at = slice_index text at
