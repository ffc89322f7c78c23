-- What is compared of rows: whether they have variables, whether they are the same except for their constants, and which constant
-- is greater.
use Rattle.std.specs.Prelude.{ℤ, pos, List, [], ◌∷◌, Bool, true, false, ◌&&◌, not, int_lt, int_le}
use Rattle.std.specs.List.{list_all}
use Rattle.std.specs.Ordering.{int_eq}
use Rattle.kat_fm.specs.Combinations.{Combination}

abbrev pub is_zero : ℤ → Bool
is_zero z = int_eq z (pos 0)

abbrev pub has_variables : Combination → Bool
has_variables row = not (list_all is_zero row.coefficients)

abbrev pub are_same : List ℤ → List ℤ → Bool
are_same [] [] = true
are_same (a ∷ cs) (b ∷ bs) = int_eq a b && are_same cs bs
are_same _ _ = false

-- a row has the coefficients of another, and at least its constant
abbrev pub covers : Combination → Combination → Bool
covers other row = are_same other.coefficients row.coefficients && int_le row.constant other.constant

-- the same, and a greater constant
abbrev pub exceeds : Combination → Combination → Bool
exceeds other row = are_same other.coefficients row.coefficients && int_lt row.constant other.constant
