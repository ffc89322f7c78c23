-- Lists as sets.
use Rattle.std.specs.Prelude.{◌≡◌, ◌⊎◌, List, [], ◌∷◌}

-- the list has x
abbrev pub Has : {X : Type 0} → List X → X → Type 0
Has [] x = ⊥
Has (y ∷ ys) x = (y ≡ x) ⊎ Has ys x

-- the list has each of its elements once
abbrev pub IsOnce : {X : Type 0} → List X → Type 0
IsOnce [] = Unit {0}
IsOnce (x ∷ xs) = (Has xs x → ⊥) × IsOnce xs

-- two lists have the same elements, in whatever order and however often
abbrev pub HaveSame : {X : Type 0} → List X → List X → Type 0
HaveSame {X} xs ys = ((one : X) → Has xs one → Has ys one) × ((one : X) → Has ys one → Has xs one)
