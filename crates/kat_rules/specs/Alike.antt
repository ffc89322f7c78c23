-- Used inside only.
-- Lists of tokens with the same places.
use Rattle.std.specs.Prelude.{ℕ, ◌==◌, ◌&&◌, Bool, true, false, List, [], ◌∷◌}
use Rattle.kat_rules.specs.Orders.{rank}
use Rattle.kat_rules.specs.declared.tokens.Token.{Token}

abbrev pub are_equal : List ℕ → List ℕ → Bool
are_equal [] [] = true
are_equal [] (b ∷ v) = false
are_equal (a ∷ u) [] = false
are_equal (a ∷ u) (b ∷ v) = a == b && are_equal u v

abbrev pub are_alike : List Token → List Token → Bool
are_alike [] [] = true
are_alike [] (b ∷ v) = false
are_alike (a ∷ u) [] = false
are_alike (a ∷ u) (b ∷ v) = are_equal (rank a) (rank b) && are_alike u v
