-- Tallies of operations.
use Rattle.std.specs.Prelude.{◌≡◌, ℕ, ◌+◌, ◌*◌, ◌≤◌, length, max, List, [], ◌∷◌, ◌==◌, if◌then◌else◌}
use Rattle.std.specs.Ordering.{nat_cmp}
use Rattle.kat_type.specs.declared.done.Done.{Done}
use Rattle.kat_lattice.specs.Keyed.{by_key, on_value, put}
use Rattle.kat_lattice.specs.Tallies.{Sums, sum_of}
use Rattle.kat_type.specs.Lists.{Has, IsOnce}
use Rattle.kat_type.specs.Unions.{AreNested, united}

-- the sum of a number for each of a list
abbrev pub total : {X : Type 0} → (X → ℕ) → List X → ℕ
total f [] = 0
total f (x ∷ xs) = f x + total f xs

-- what an operation adds to the sum of a replica
abbrev pub share : (Done → ℕ) → ℕ → Done → ℕ
share weight replica one = if one.replica == replica then weight one else 0

-- the sum of a replica
abbrev pub sum_done : (Done → ℕ) → ℕ → List Done → ℕ
sum_done weight replica ones = total (share weight replica) ones

abbrev pub second_of : ℕ → ℕ → ℕ
second_of x y = y

-- the sums with a weight more at a replica; no sum is kept that is 0
abbrev pub bumped : Sums → ℕ → ℕ → Sums
bumped sums replica weight =
    if weight == 0 then sums else put (by_key nat_cmp) (on_value second_of) (replica, sum_of sums replica + weight) sums

abbrev pub tally_of : (Done → ℕ) → List Done → Sums
tally_of weight [] = []
tally_of weight (one ∷ ones) = bumped (tally_of weight ones) one.replica (weight one)

abbrev pub SumsUnite : Type 0
SumsUnite = (weight : Done → ℕ) (replica : ℕ) (xs ys : List Done) → IsOnce xs → IsOnce ys → AreNested xs ys
    → sum_done weight replica (united xs ys) ≡ max (sum_done weight replica xs) (sum_done weight replica ys)

-- the sum of a replica in a list without repeats whose operations were all done is at most the sum of all that was done
abbrev pub SumsWithin : Type 0
SumsWithin = (weight : Done → ℕ) (most : ℕ) (past xs : List Done) (replica : ℕ) → IsOnce xs → ((one : Done) → Has xs one → Has past one)
    → ((one : Done) → Has past one → weight one ≤ most) → sum_done weight replica xs ≤ length past * most
