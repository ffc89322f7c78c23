-- The bytes that words, numbers and names are made of.
use Rattle.std.specs.Prelude.{ℕ, Bool, ◌&&◌, ◌||◌, ◌==◌, nat_le}

-- a digit, `0` to `9`
abbrev pub is_digit : ℕ → Bool
is_digit byte = nat_le 48 byte && nat_le byte 57

-- a letter, `A` to `Z` or `a` to `z`
abbrev pub is_letter : ℕ → Bool
is_letter byte = (nat_le 65 byte && nat_le byte 90) || (nat_le 97 byte && nat_le byte 122)

-- a word begins with a letter or `_`
abbrev pub is_word_start : ℕ → Bool
is_word_start byte = is_letter byte || (byte == 95)

-- and goes on with letters, `_` and digits
abbrev pub is_word_byte : ℕ → Bool
is_word_byte byte = is_word_start byte || is_digit byte

-- a name has the bytes of a word, `.` and `-`
abbrev pub is_name_byte : ℕ → Bool
is_name_byte byte = is_word_byte byte || ((byte == 46) || (byte == 45))
