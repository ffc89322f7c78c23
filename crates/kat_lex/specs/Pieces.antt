-- The pieces of a text, by where they begin and end. Each is as long as it can be.
use Rattle.std.specs.Prelude.{◌≡◌, ℕ, ◌+◌, ◌<◌, ◌≤◌, Bool, true, false, not, ◌==◌, List, length}
use Rattle.kat_num.specs.Bytes.{is_digit, is_word_byte, is_name_byte}
use Rattle.kat_lex.specs.Classes.{byte_at, class_of, is_double}
use Rattle.kat_lex.specs.declared.classes.Class.TheVariants.{Letter, Digit, Quote, Mark, LineEnd, Hash, Blank}

-- the longest run, from a place on, of bytes that pass
pub record IsRun (passes : ℕ → Bool) (text : List ℕ) (from to : ℕ) : Type 0 where
  pub ordered : from ≤ to
  pub within : to ≤ length text
  pub each : (at : ℕ) → from ≤ at → at < to → passes (byte_at text at) ≡ true
  pub longest : to < length text → passes (byte_at text to) ≡ false

-- a word: a letter or `_`, and as many letters, `_` and digits as follow
pub record IsWord (text : List ℕ) (from to : ℕ) : Type 0 where
  pub first : class_of (byte_at text from) ≡ Letter
  pub run : IsRun is_word_byte text from to

-- as many digits as follow one another
pub record IsDigits (text : List ℕ) (from to : ℕ) : Type 0 where
  pub first : class_of (byte_at text from) ≡ Digit
  pub run : IsRun is_digit text from to

-- a double quote and the bytes of names after it, up to the byte that ends them
pub record IsOpened (text : List ℕ) (from end : ℕ) : Type 0 where
  pub first : class_of (byte_at text from) ≡ Quote
  pub run : IsRun is_name_byte text (from + 1) end

-- a sign by its two bytes, the longest match: two bytes if they are a sign, else one and 0
pub data IsSign (text : List ℕ) (from to first second : ℕ) : Type 0 where
  double : class_of (byte_at text from) ≡ Mark → is_double (byte_at text from) (byte_at text (from + 1)) ≡ true
      → first ≡ byte_at text from → second ≡ byte_at text (from + 1) → to ≡ from + 2 → IsSign text from to first second
  single : class_of (byte_at text from) ≡ Mark → is_double (byte_at text from) (byte_at text (from + 1)) ≡ false
      → first ≡ byte_at text from → second ≡ 0 → to ≡ from + 1 → IsSign text from to first second

-- a newline
pub record IsLineEnd (text : List ℕ) (from to : ℕ) : Type 0 where
  pub first : class_of (byte_at text from) ≡ LineEnd
  pub one : to ≡ from + 1

-- what gives no token: a blank, or a comment up to the end of its line
pub data IsGap (text : List ℕ) (from to : ℕ) : Type 0 where
  blank : class_of (byte_at text from) ≡ Blank → to ≡ from + 1 → IsGap text from to
  comment : class_of (byte_at text from) ≡ Hash → IsRun (λ byte. not (byte == 10)) text from to → IsGap text from to
