-- Used inside only.
-- What names are.
use Rattle.std.specs.Prelude.{◌≡◌, ◌++◌, not, ℕ, Bool, true, false, ◌&&◌, ◌||◌, ◌==◌, List, [], ◌∷◌, String, map}
use Rattle.std.specs.Borrow.{Bor}
use Rattle.std.specs.Char.{is_ascii_alphabetic}
use Rattle.std.specs.List.{list_all, list_any}
use Rattle.std.specs.Global.{Global}
use Rattle.std.specs.String.{string_bytes}
use Rattle.std.specs.Str.{bytes_eq}
use Rattle.kat_emit.specs.Words.{is_part}

abbrev pub texts_of : List (Bor (List ℕ)) → List (List ℕ)
texts_of words = map (λ (word : Bor (List ℕ)). word.now) words

abbrev pub names_in : List (String Global) → List (List ℕ)
names_in texts = map (λ (text : String Global). string_bytes text) texts

-- whether a text is one of a list
abbrev pub is_among : List ℕ → List (List ℕ) → Bool
is_among word words = list_any (λ other. bytes_eq other word) words

-- an identifier, as all the languages have it: letters, digits and `_`, and no digit first
abbrev pub is_identifier : List ℕ → Bool
is_identifier [] = false
is_identifier (letter ∷ more) = (is_ascii_alphabetic letter || letter == 95) && list_all is_part more

-- whether a name is none of these
abbrev pub is_free : List (List ℕ) → List (List ℕ) → List (List ℕ) → List ℕ → Bool
is_free kept outer taken name = not (is_among name kept) && not (is_among name outer) && not (is_among name taken)

-- `_`s, or nothing
abbrev pub is_mark : List ℕ → Bool
is_mark letters = list_all (λ letter. letter == 95) letters

-- a name that can come to a scope: an identifier, none of the words that are kept there, and none of the names that are taken
pub record IsNew (kept taken : List (List ℕ)) (name : List ℕ) : Type 0 where
  pub identifier : is_identifier name ≡ true
  pub unreserved : is_among name kept ≡ false
  pub different : is_among name taken ≡ false

abbrev pub are_different : List (List ℕ) → Bool
are_different [] = true
are_different (name ∷ names) = not (is_among name names) && are_different names

-- the names of a scope: identifiers, of which none is kept there, and no two are the same
pub record AreNames (kept names : List (List ℕ)) : Type 0 where
  pub identifiers : list_all is_identifier names ≡ true
  pub unreserved : list_any (λ name. is_among name kept) names ≡ false
  pub different : are_different names ≡ true

-- a name came to those of a scope
pub record Adds (kept old new : List (List ℕ)) (name : List ℕ) : Type 0 where
  pub added : new ≡ old ++ name ∷ []
  pub fresh : IsNew kept old name

-- some name came to those of a scope
pub record Gains (kept old new : List (List ℕ)) : Type 0 where
  pub name : List ℕ
  pub adds : Adds kept old new name
