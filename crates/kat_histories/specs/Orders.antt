-- Used inside only.
-- Used by kat_hist: a list in all orders, and tests of all pairs.
use Rattle.std.specs.Prelude.{Bool, true, false, ◌&&◌, List, [], ◌∷◌, map}
use Rattle.std.specs.List.{flat_map, list_all}
use Rattle.std.specs.declared.cmp.Ordering.{Ordering}
use Rattle.std.specs.declared.cmp.Ordering.TheVariants.{Less, Equal, Greater}
use Rattle.kat_histories.specs.Choices.{headed}

-- x at each place of a list
abbrev pub put_in : {X : Type 0} → X → List X → List (List X)
put_in x [] = (x ∷ []) ∷ []
put_in x (y ∷ ys) = (x ∷ y ∷ ys) ∷ map (headed y) (put_in x ys)

-- a list in all orders
abbrev pub orders_of : {X : Type 0} → List X → List (List X)
orders_of [] = [] ∷ []
orders_of (x ∷ xs) = flat_map (put_in x) (orders_of xs)

-- the test passes for each element and each later one
abbrev pub each_pair : {X : Type 0} → (X → X → Bool) → List X → Bool
each_pair test [] = true
each_pair test (x ∷ xs) = list_all (test x) xs && each_pair test xs

abbrev pub is_less : Ordering → Bool
is_less Less = true
is_less Equal = false
is_less Greater = false
