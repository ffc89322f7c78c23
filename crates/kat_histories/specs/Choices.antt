-- All ways to choose elements of lists, in order.
use Rattle.std.specs.Prelude.{ℕ, zero, suc, List, [], ◌∷◌, ◌++◌, map}
use Rattle.std.specs.List.{flat_map}

abbrev pub headed : {X : Type 0} → X → List X → List X
headed x xs = x ∷ xs

-- one element of each of these lists: lexicographically, by their places
abbrev pub one_of_each : {X : Type 0} → List (List X) → List (List X)
one_of_each [] = [] ∷ []
one_of_each (xs ∷ more) = flat_map (λ x. map (headed x) (one_of_each more)) xs

-- this many different places of a list, ascending: lexicographically
abbrev pub some_of : {X : Type 0} → ℕ → List X → List (List X)
some_of zero xs = [] ∷ []
some_of (suc count) [] = []
some_of (suc count) (x ∷ xs) = map (headed x) (some_of count xs) ++ some_of (suc count) xs
