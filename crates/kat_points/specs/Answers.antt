-- Used inside only.
-- Used by kat_audit, kat_block, kat_said and inside only: what the program's points and answers stand for.
use Rattle.std.specs.Prelude.{◌≡◌, ℕ, false, true, List}
use Rattle.kat_form.specs.Encodings.{Sense}
use Rattle.kat_form.specs.Facts.{Fact}
use Rattle.kat_points.specs.Points.{Decides, IsDecisiveFor, IsNarrowPoint, IsTooWide, PointForm, some_pass}
use Rattle.kat_points.specs.declared.points.Point.{Point}
use Rattle.kat_points.specs.declared.points.Found.{Found}
use Rattle.kat_points.specs.declared.points.Found.TheVariants.{Decisive, TooWide, Neither}

abbrev pub point_form : Point → PointForm
point_form p = record { den = p.den; nums = p.nums.items; truths = p.truths.items }

-- what is found of a point
abbrev pub IsFound : List Fact → List Sense → ℕ → PointForm → Found → Type 0
IsFound facts senses numbers p Decisive = (IsTooWide senses numbers p → ⊥) × IsDecisiveFor facts senses numbers p
IsFound facts senses numbers p TooWide = IsTooWide senses numbers p
IsFound facts senses numbers p Neither = (IsTooWide senses numbers p → ⊥) × (IsDecisiveFor facts senses numbers p → ⊥)

-- the same of a point of the encoding
abbrev pub IsFoundOf : List Fact → List Sense → PointForm → Found → Type 0
IsFoundOf facts senses p Decisive = (some_pass p senses ≡ false) × IsNarrowPoint p × Decides facts senses p
IsFoundOf facts senses p TooWide = some_pass p senses ≡ true
IsFoundOf facts senses p Neither = (some_pass p senses ≡ false) × (IsNarrowPoint p → Decides facts senses p → ⊥)
