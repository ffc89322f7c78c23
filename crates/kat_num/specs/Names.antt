-- Names and their codes.
use Rattle.std.specs.Prelude.{◌≡◌, ℕ, zero, suc, ◌+◌, ◌-◌, ◌*◌, ◌/◌, ◌%◌, ◌^◌, ◌≤◌, ◌==◌, true, not, List, [], ◌∷◌, ◌++◌, length, replicate, take_while}
use Rattle.std.specs.List.{list_all}
use Rattle.kat_num.specs.Bytes.{is_name_byte}
use Rattle.kat_num.specs.declared.names.TheConstants.{NAME_LIMIT}

-- a name: at most 15 bytes, each a letter, a digit, `_`, `.` or `-`
pub record IsName (bytes : List ℕ) : Type 0 where
  pub short : length bytes ≤ NAME_LIMIT
  pub each : list_all is_name_byte bytes ≡ true

-- the number that the bytes write to the base 256, the most significant byte first
abbrev pub big_endian : List ℕ → ℕ
big_endian [] = 0
big_endian (byte ∷ bytes) = byte * 256 ^ length bytes + big_endian bytes

-- the code of a name: its bytes, padded at the end with zero bytes to 15, as one big-endian number
abbrev pub code_of : List ℕ → ℕ
code_of name = big_endian (name ++ replicate (NAME_LIMIT - length name) 0)

-- the number is the code of a name
pub record IsNameCode (code : ℕ) : Type 0 where
  pub name : List ℕ
  pub is_name : IsName name
  pub coded : code_of name ≡ code

-- the n lowest bytes of a number, the most significant first
unfoldable pub low_bytes : ℕ → ℕ → List ℕ
low_bytes zero number = []
low_bytes (suc n) number = (number / 256 ^ n % 256) ∷ low_bytes n number

-- the name with this code: the bytes of the code before the padding
unfoldable pub name_of_code : ℕ → List ℕ
name_of_code code = take_while (λ byte. not (byte == 0)) (low_bytes NAME_LIMIT code)
