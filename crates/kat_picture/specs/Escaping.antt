-- Texts inside of SVG.
use Rattle.std.specs.Prelude.{ℕ, Bool, ◌||◌, ◌==◌, List, [], ◌∷◌, ◌++◌, codes, if◌then◌else◌}
use Rattle.std.specs.List.{flat_map}
use Rattle.std.specs.Fmt.{decimal}
use Rattle.kat_num.specs.Bytes.{is_name_byte}

-- a byte that stands for itself: a digit, a letter, `_`, `.`, `-`, a blank or `=`
abbrev pub is_plain : ℕ → Bool
is_plain byte = is_name_byte byte || (byte == 32) || (byte == 61)

-- another byte is written as a reference to its number
abbrev pub escaped_byte : ℕ → List ℕ
escaped_byte byte = if is_plain byte then byte ∷ [] else codes "&#" ++ decimal byte ++ codes ";"

abbrev pub escaped : List ℕ → List ℕ
escaped text = flat_map escaped_byte text
