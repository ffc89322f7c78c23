-- Candidates that are dropped one after the other, and the evidence that a design is open.
use Rattle.std.specs.Prelude.{◌≡◌, ℕ, ℤ, Bool, false, List, [], ◌∷◌, ◌++◌, map, Some}
use Rattle.kat_design.specs.Designs.{DesignForm}
use Rattle.kat_form.specs.Facts.{Fact}
use Rattle.kat_form.specs.Readings.{encoding_of, numbers_of_facts}
use Rattle.kat_relation.specs.declared.relations.Conjunct.{Conjunct}
use Rattle.kat_cases.specs.Points.{IsDecisive}
use Rattle.kat_cases.specs.declared.decision.Point.{Point}
use Rattle.kat_type.specs.Types.{TypeForm}
use Rattle.kat_vc.specs.Conditions.{Condition, facts_by}
use Rattle.kat_candidate.specs.Places.{condition_at, conjunct_at, has_number, left_behind}
use Rattle.kat_candidate.specs.declared.places.Place1.{Place1}
use Rattle.kat_candidate.specs.declared.places.Place1.TheVariants.{Query}
use Rattle.kat_drop.specs.declared.drops.Drop1.{Drop1}

-- a point as plain data: numerators of the number variables over a denominator, and the values of the truth variables
pub record PointForm : Type 0 where
  pub den : ℤ
  pub nums : List ℤ
  pub truths : List Bool

abbrev pub point_form : Point → PointForm
point_form p = record { den = p.den; nums = p.nums.items; truths = p.truths.items }

-- a candidate is dropped: the place of a condition of it, and the point at which that fails
pub record DropForm : Type 0 where
  pub at : Place1
  pub point : PointForm

abbrev pub drop_form : Drop1 → DropForm
drop_form d = record { at = d.at; point = point_form d.point }

abbrev pub drops_of : List Drop1 → List DropForm
drops_of drops = map drop_form drops

-- the numbers of the candidates that are dropped
abbrev pub dropped_by : List DropForm → List ℕ
dropped_by [] = []
dropped_by (d ∷ ds) = conjunct_at d.at ++ dropped_by ds

-- The condition at a place fails, under the candidates that aren't dropped: there is such a condition, and the point is decisive
-- for its facts.
pub record FailsAt (ty : TypeForm) (design : DesignForm) (candidates : List Conjunct) (dropped : List ℕ) (at : Place1) (point : PointForm) : Type 0 where
  pub condition : Condition
  pub there : condition_at ty candidates at ≡ Some condition
  pub decisive : (λ (facts : List Fact). IsDecisive (encoding_of facts) (numbers_of_facts facts) point.den point.nums point.truths)
      (facts_by ty design (left_behind candidates dropped) (Some condition))

-- A candidate that isn't dropped yet may be: a condition of it fails under those that aren't dropped, itself among them.
pub record MayDrop (ty : TypeForm) (design : DesignForm) (candidates : List Conjunct) (dropped : List ℕ) (d : DropForm) : Type 0 where
  pub number : ℕ
  pub of_candidate : conjunct_at d.at ≡ number ∷ []
  pub fresh : has_number number dropped ≡ false
  pub fails : FailsAt ty design candidates dropped d.at d.point

-- each may be dropped when those before it are
abbrev pub MayDropEach : TypeForm → DesignForm → List Conjunct → List ℕ → List DropForm → Type 0
MayDropEach ty design candidates dropped [] = Unit {0}
MayDropEach ty design candidates dropped (d ∷ ds) = MayDrop ty design candidates dropped d × MayDropEach ty design candidates (dropped ++ conjunct_at d.at) ds

abbrev pub AreDrops : TypeForm → DesignForm → List Conjunct → List DropForm → Type 0
AreDrops ty design candidates drops = MayDropEach ty design candidates [] drops

-- An open certificate: candidates that may be dropped in this order, and at last a query whose answers differ at a point
-- that is decisive under those that are left.
pub record IsOpenCertificate (ty : TypeForm) (design : DesignForm) (candidates : List Conjunct) (drops : List DropForm) (query : ℕ) (point : PointForm) : Type 0 where
  pub dropped : AreDrops ty design candidates drops
  pub fails : FailsAt ty design candidates (dropped_by drops) (Query query) point
