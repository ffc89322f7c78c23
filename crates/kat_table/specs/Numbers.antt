-- Used inside only.
-- What the words of rows are as numbers, and what follows the bytes if memory runs out for a text.
use Rattle.std.specs.Prelude.{◌≡◌, ◌++◌, ℕ, ℤ, List, Result, Some, Ok, Err, FitsSigned, ⊤}
use Rattle.std.specs.Borrow.{Bor}
use Rattle.std.specs.Int.{w128}
use Rattle.std.specs.Iterator.{Drains, YieldsThen}
use Rattle.std.specs.List.{AllZip}
use Rattle.std.specs.Str.Iter.{split_whitespace_steps}
use Rattle.std.specs.Str.Parse.{IsNumeral, signed_digits_value, without_leading_sign}
use Rattle.std.specs.declared.str.SplitWhitespace.{SplitWhitespace}
use Rattle.kat_table.specs.declared.errors.RowError.{RowError}
use Rattle.kat_table.specs.declared.errors.RowError.TheVariants.{Damaged, Memory}

-- the whole number that a word writes
abbrev pub whole_of : List ℕ → ℤ
whole_of word = signed_digits_value 10 word

-- the word is a whole number of 128 bits: one digit or more, after a sign or none
abbrev pub IsWhole : List ℕ → Type 0
IsWhole word = IsNumeral 10 (without_leading_sign word) × FitsSigned w128 (whole_of word)

-- after the bytes that were there comes a prefix of the text
abbrev pub IsCutShort : List ℕ → List ℕ → List ℕ → Type 0
IsCutShort old new text = (front : List ℕ) × (rest : List ℕ) × (new ≡ old ++ front) × (text ≡ front ++ rest)

-- the error is damage, not out of memory
abbrev pub IsDamage : RowError → Type 0
IsDamage (Damaged why) = ⊤
IsDamage Memory = ⊥

-- `gives` is what a type has for a whole number, or its refusal
module _ {X E : Type 0} (gives : ℤ → Result X E → Type 0) where
  -- the number is that of the word
  abbrev pub IsNumberOf : List ℕ → X → Type 0
  IsNumberOf word number = IsWhole word × gives (whole_of word) (Ok number)

  -- the word is no whole number, or one that the type refuses
  abbrev pub IsNoNumber : List ℕ → Type 0
  IsNoNumber word = IsWhole word → (refusal : E) × gives (whole_of word) (Err refusal)

  -- the number of the word; or an error, if the word is no whole number, or one that the type refuses
  abbrev pub ReadsNumber : {F : Type 0} → List ℕ → Result X F → Type 0
  ReadsNumber word (Ok number) = IsNumberOf word number
  ReadsNumber word (Err error) = IsNoNumber word

  -- each number is that of its word, in the order of the words
  abbrev pub AreNumbersOf : List (Bor (List ℕ)) → List X → Type 0
  AreNumbersOf said numbers = AllZip (λ (word : Bor (List ℕ)). IsNumberOf word.now) said numbers

  -- the same of all words that are still to come
  abbrev pub AreNumbersIn : SplitWhitespace → List X → Type 0
  AreNumbersIn words numbers = (said : List (Bor (List ℕ))) × Drains split_whitespace_steps words said × AreNumbersOf said numbers

  -- a word that is still to come is no number
  abbrev pub HasNoNumber : SplitWhitespace → Type 0
  HasNoNumber words = (said : List (Bor (List ℕ))) × (word : Bor (List ℕ)) × (behind : SplitWhitespace)
      × YieldsThen split_whitespace_steps words said (Some word) behind × IsNoNumber word.now

  -- damage: one of the words is no number; out of memory: each word is one
  abbrev pub TellsWords : SplitWhitespace → RowError → Type 0
  TellsWords words (Damaged why) = HasNoNumber words
  TellsWords words Memory = (numbers : List X) × AreNumbersIn words numbers
