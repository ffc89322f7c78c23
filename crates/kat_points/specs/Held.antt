-- Used inside only.
-- Numbers as they are held: which one it is that passes 2^126 makes no difference.
use Rattle.std.specs.Prelude.{◌≡◌, ◌↔◌, ◌⊎◌, ℕ, ℤ, pos, int_lt, true, List, [], ◌∷◌}
use Rattle.kat_form.specs.Encodings.{Sense}
use Rattle.kat_form.specs.Facts.{Fact}
use Rattle.kat_points.specs.Points.{IsDecisiveFor, IsTooWide, PointForm, is_wide}

-- a number is held as itself, or, if it passes 2^126, any number that passes it and has the same sign.
abbrev pub IsHeldAs : ℤ → ℤ → Type 0
IsHeldAs z held = (z ≡ held) ⊎ ((is_wide z ≡ true) × (is_wide held ≡ true) × (int_lt z (pos 0) ≡ int_lt held (pos 0)))

abbrev pub AreHeldAs : List ℤ → List ℤ → Type 0
AreHeldAs [] [] = Unit {0}
AreHeldAs [] (h ∷ hs) = ⊥
AreHeldAs (z ∷ zs) [] = ⊥
AreHeldAs (z ∷ zs) (h ∷ hs) = IsHeldAs z h × AreHeldAs zs hs

-- a point as it is held
pub record IsHeldPoint (p held : PointForm) : Type 0 where
  pub den : IsHeldAs p.den held.den
  pub nums : AreHeldAs p.nums held.nums
  pub truths : p.truths ≡ held.truths

-- the same comes of a point and of one that it is held as
abbrev pub HeldPointsAreAlike : Type 0
HeldPointsAreAlike = (facts : List Fact) (senses : List Sense) (numbers : ℕ) (p held : PointForm) → IsHeldPoint p held
    → (IsTooWide senses numbers p ↔ IsTooWide senses numbers held) × (IsDecisiveFor facts senses numbers p ↔ IsDecisiveFor facts senses numbers held)
