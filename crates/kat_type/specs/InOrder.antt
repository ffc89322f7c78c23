-- Lists in the order of a comparison.
use Rattle.std.specs.Prelude.{List, [], ◌∷◌}
use Rattle.std.specs.declared.cmp.Ordering.{Ordering}
use Rattle.std.specs.declared.cmp.Ordering.TheVariants.{Less, Equal, Greater}

-- x is put into an ascending list, unless it is there
abbrev pub put_at : {X : Type 0} → Ordering → X → X → List X → List X → List X
put_at Less x y ys rest = x ∷ y ∷ ys
put_at Equal x y ys rest = y ∷ ys
put_at Greater x y ys rest = y ∷ rest

abbrev pub put_in : {X : Type 0} → (X → X → Ordering) → X → List X → List X
put_in R x [] = x ∷ []
put_in R x (y ∷ ys) = put_at (R x y) x y ys (put_in R x ys)

-- the elements of a list in order, each once
abbrev pub in_order : {X : Type 0} → (X → X → Ordering) → List X → List X
in_order R [] = []
in_order R (x ∷ xs) = put_in R x (in_order R xs)
