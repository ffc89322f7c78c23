-- What a call over bytes passes.
use Rattle.std.specs.Prelude.{◌≡◌, ◌⊎◌, ℕ, List, All, IsUtf8, String, Vec, map}
use Rattle.std.specs.Global.{Global}
use Rattle.kat_passed.specs.Passing.{files_said, named, pieces, words_said}
use Rattle.kat_words.specs.Words.{texts}

-- the words, and the names of the files, with zero bytes between them; how many bytes each file has; and those of all files
pub record Passed : Type 0 where
  pub words : List ℕ
  pub names : List ℕ
  pub lengths : List ℕ
  pub bytes : List ℕ

abbrev pub passed_as : List ℕ → List ℕ → List ℕ → List ℕ → Passed
passed_as words names lengths bytes = record { words = words; names = names; lengths = lengths; bytes = bytes }

-- a word, or the name of a file, isn't text
abbrev pub HasNoText : Passed → Type 0
HasNoText passed = (All IsUtf8 (words_said passed.words) → ⊥) ⊎ (All IsUtf8 (pieces passed.names) → ⊥)

-- these are the words and the files that are passed
pub record ArePassed (passed : Passed) (words : List (String Global)) (files : List (String Global × Vec ℕ Global)) : Type 0 where
  pub words_are : texts words ≡ words_said passed.words
  pub files_are : map named files ≡ files_said (pieces passed.names) passed.lengths passed.bytes
