-- Used inside only.
-- Both statements of decisive points are one.
use Rattle.std.specs.Prelude.{ℕ, List}
use Rattle.kat_form.specs.Facts.{Fact}
use Rattle.kat_form.specs.Readings.{encoding_of}
use Rattle.kat_cases.specs.Points.{IsDecisive}
use Rattle.kat_points.specs.Points.{IsDecisiveFor, PointForm}

abbrev pub DecisivePointsDecide : Type 0
DecisivePointsDecide = (facts : List Fact) (numbers : ℕ) (p : PointForm) → IsDecisive (encoding_of facts) numbers p.den p.nums p.truths → IsDecisiveFor facts (encoding_of facts).senses numbers p

abbrev pub PointsThatDecideAreDecisive : Type 0
PointsThatDecideAreDecisive = (facts : List Fact) (numbers : ℕ) (p : PointForm) → IsDecisiveFor facts (encoding_of facts).senses numbers p → IsDecisive (encoding_of facts) numbers p.den p.nums p.truths
