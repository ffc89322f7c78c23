-- Used inside only.
-- What an enumeration has still to find.
use Rattle.std.specs.Prelude.{◌≡◌, ℕ, zero, suc, ◌+◌, ◌-◌, ◌*◌, ◌<◌, Bool, true, false, List, [], ◌∷◌, ◌++◌, drop, Option, None, Some}
use Rattle.kat_walk.specs.Walks.{to_come}
use Rattle.kat_decoding.specs.Decoded.{is_listed_word}
use Rattle.kat_decoding.specs.Words.{listing_machine, listing_words}
use Rattle.kat_rules.specs.declared.constants.Setting.{Setting}
use Rattle.kat_gram.specs.declared.enumerating.Enumeration.{Enumeration}
use Rattle.kat_rules.specs.declared.tokens.Token.{Token}

-- the token lists of the designs of a size, and of the next sizes after one
abbrev pub words_of_size : Setting → ℕ → List (List Token)
words_of_size x n = listing_words x (is_listed_word x n) n

abbrev pub words_behind : Setting → ℕ → ℕ → List (List Token)
words_behind x n zero = []
words_behind x n (suc count) = words_of_size x (suc n) ++ words_behind x (suc n) count

-- what is still to come: a list that was found, the others of its size, and those of greater sizes
abbrev pub with_found : Option (List Token) → List (List Token) → List (List Token)
with_found None words = words
with_found (Some w) words = w ∷ words

-- the other lists of the size that it is at, the greatest size, and all that is still to come
abbrev pub of_this_size : Enumeration → List (List Token)
of_this_size h = to_come (listing_machine h.search.setting (is_listed_word h.search.setting h.search.size)) h.walk

abbrev pub most_of : Enumeration → ℕ
most_of h = h.beyond + 1

abbrev pub left_of : Enumeration → List (List Token)
left_of h = with_found h.found (of_this_size h ++ words_behind h.search.setting h.search.size (most_of h - h.search.size))

-- an enumeration as its callers see it: all token lists up to a size, and those that are left
pub record Enumerated : Type 0 where
  pub setting : Setting
  pub words : List (List Token)
  pub left : List (List Token)

abbrev pub stream_of : Setting → ℕ → List (List Token) → Enumerated
stream_of x most left = record { setting = x; words = words_behind x 0 most; left = left }

abbrev pub stream_in : Enumeration → Enumerated
stream_in h = stream_of h.search.setting (most_of h) (left_of h)

-- with this many lists passed
abbrev pub passed : ℕ → Enumerated → Enumerated
passed n g = record { setting = g.setting; words = g.words; left = drop n g.left }

-- how many steps it takes at most until a list is found
abbrev pub to_do : Option (List Token) → ℕ
to_do None = 1
to_do (Some w) = 0

abbrev pub steps : Enumeration → ℕ
steps h = 2 * (most_of h - h.search.size) + to_do h.found

-- a list was found, unless none is left
abbrev pub IsFound : Option (List Token) → List (List Token) → Type 0
IsFound None left = left ≡ []
IsFound (Some w) left = Unit {0}

-- it goes on, or nothing is left
abbrev pub GoesOn : Enumeration → Enumeration → Bool → Type 0
GoesOn old new true = steps new < steps old
GoesOn old new false = left_of new ≡ []
