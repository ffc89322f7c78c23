-- Used inside only.
-- What an arena of intrusive lists stands for: a list of lists of items.
use Rattle.std.specs.Prelude.{◌≡◌, ℕ, ◌<◌, List, [], ◌∷◌, map, set, Bool, not, nat_eq, Option, Some, None, slice_index_or}
use Rattle.std.specs.List.{Contains, filter}

-- how many items there are, and the lists, each with its items in order
pub record Lists : Type 0 where
  pub items : ℕ
  pub lists : List (List ℕ)

-- the list of this number; past the last one it is empty
abbrev pub list_at : List (List ℕ) → ℕ → List ℕ
list_at lists l = slice_index_or lists l []

-- the first item of a list
abbrev pub head : List ℕ → Option ℕ
head [] = None
head (x ∷ xs) = Some x

-- some list has the item
abbrev pub IsListed : Lists → ℕ → Type 0
IsListed arena item = (l : ℕ) × Contains (list_at arena.lists l) item

-- no list has the item
abbrev pub IsFree : Lists → ℕ → Type 0
IsFree arena item = (l : ℕ) → Contains (list_at arena.lists l) item → ⊥

abbrev pub is_other : ℕ → ℕ → Bool
is_other item x = not (nat_eq x item)

-- the lists without an item
abbrev pub without : ℕ → List (List ℕ) → List (List ℕ)
without item lists = map (filter (is_other item)) lists

-- the lists with an item in front of one of them
abbrev pub with_first : ℕ → ℕ → List (List ℕ) → List (List ℕ)
with_first list item lists = set lists list (item ∷ list_at lists list)

-- no item occurs twice in a list
abbrev pub IsOnce : List ℕ → Type 0
IsOnce [] = Unit {0}
IsOnce (x ∷ xs) = (Contains xs x → ⊥) × IsOnce xs

-- each item is one of those that exist, and is in one list at most, once
pub record IsArranged (arena : Lists) : Type 0 where
  pub below : (l x : ℕ) → Contains (list_at arena.lists l) x → x < arena.items
  pub once : (l : ℕ) → IsOnce (list_at arena.lists l)
  pub apart : (l m x : ℕ) → Contains (list_at arena.lists l) x → Contains (list_at arena.lists m) x → l ≡ m
