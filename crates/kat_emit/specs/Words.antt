-- Used inside only.
-- Words of source code.
use Rattle.std.specs.Prelude.{◌≡◌, ℕ, Bool, true, false, ◌&&◌, ◌||◌, ◌==◌, List, [], ◌∷◌, ◌++◌}
use Rattle.std.specs.Char.{is_ascii_alphabetic, is_ascii_alphanumeric}
use Rattle.std.specs.List.{list_all}

-- letters, digits and `_`
abbrev pub is_part : ℕ → Bool
is_part letter = is_ascii_alphanumeric letter || letter == 95

-- a letter, and then letters, digits and `_`
abbrev pub is_word : List ℕ → Bool
is_word [] = false
is_word (letter ∷ more) = is_ascii_alphabetic letter && list_all is_part more

-- nothing, or a word
abbrev pub is_begun : List ℕ → Bool
is_begun [] = true
is_begun (letter ∷ more) = is_word (letter ∷ more)

-- letters, digits and `_` were appended, or nothing
pub record AppendsParts (old new : List ℕ) : Type 0 where
  pub parts : List ℕ
  pub appended : new ≡ old ++ parts
  pub good : list_all is_part parts ≡ true

-- a word was appended
pub record AppendsWord (old new : List ℕ) : Type 0 where
  pub word : List ℕ
  pub appended : new ≡ old ++ word
  pub good : is_word word ≡ true
