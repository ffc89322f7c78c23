-- What is reported of each kind of line.
use Rattle.std.proofs.Common.{◌≡◌, ℕ, ℤ, List, Some, Result, Ok, Err, IfOk, refl, sym, subst}
use Rattle.kat_design.specs.Designs.{DesignForm}
use Rattle.kat_points.specs.Points.{PointForm}
use Rattle.kat_relation.specs.declared.relations.Conjunct.{Conjunct}
use Rattle.kat_said.specs.Sayings.{SaidForm}
use Rattle.kat_said.specs.Sayings.SaidForm.{drops, fails, spends, crowds, widens, is_long}
use Rattle.kat_said.specs.declared.said.Place.{Place}
use Rattle.kat_said.specs.declared.said.Place.TheVariants.{Query}
use Rattle.kat_said.specs.declared.judging.Step as told
use Rattle.kat_said.specs.declared.judging.Step.TheVariants.{Due, Fault, Wide}
use Rattle.kat_type.specs.Types.{TypeForm}
use Rattle.kat_walks.specs.Walks.{End}
use Rattle.kat_block.specs.Blocks.{IsOfConjunct}
use Rattle.kat_block.specs.Left.{IsEndStep, IsPointStep, IsStepOf, end_said}

-- a point at the place of a candidate's condition
drop_told : (ty : TypeForm) (d : DesignForm) (candidates : List Conjunct) (effort : ℕ) (dropped : List ℕ) (at : Place) (point : PointForm) (step : told.Step) → IsOfConjunct at → IsPointStep ty d candidates dropped at point step
    → IsStepOf ty d candidates effort dropped (drops at point) step
drop_told ty d candidates effort dropped at point Due of is = (λ h. is.0 h.1, (of, is.1))
drop_told ty d candidates effort dropped at point Fault of is = (λ h. is.0 h.1, λ h. is.1 h.1)
drop_told ty d candidates effort dropped at point Wide of is = (of, is)

pub drop_tells : {E : Type 0} (ty : TypeForm) (d : DesignForm) (candidates : List Conjunct) (effort : ℕ) (dropped : List ℕ) (at : Place) (point : PointForm) (r : Result told.Step E) → IsOfConjunct at → IfOk r (IsPointStep ty d candidates dropped at point)
    → IfOk r (IsStepOf ty d candidates effort dropped (drops at point))
drop_tells ty d candidates effort dropped at point (Ok step) of is = drop_told ty d candidates effort dropped at point step of is
drop_tells ty d candidates effort dropped at point (Err e) of is = is

pub query_tells : (ty : TypeForm) (d : DesignForm) (candidates : List Conjunct) (effort : ℕ) (dropped : List ℕ) (at : Place) (point : PointForm) → (IsOfConjunct at → ⊥) → IsStepOf ty d candidates effort dropped (drops at point) Fault
query_tells ty d candidates effort dropped at point none = (λ h. none h.0, λ h. none h.0)

fail_told : (ty : TypeForm) (d : DesignForm) (candidates : List Conjunct) (effort : ℕ) (dropped : List ℕ) (query : ℕ) (point : PointForm) (step : told.Step) → IsPointStep ty d candidates dropped (Query query) point step
    → IsStepOf ty d candidates effort dropped (fails query point) step
fail_told ty d candidates effort dropped query point Due is = is
fail_told ty d candidates effort dropped query point Fault is = is
fail_told ty d candidates effort dropped query point Wide is = is

pub fail_tells : {E : Type 0} (ty : TypeForm) (d : DesignForm) (candidates : List Conjunct) (effort : ℕ) (dropped : List ℕ) (query : ℕ) (point : PointForm) (r : Result told.Step E) → IfOk r (IsPointStep ty d candidates dropped (Query query) point)
    → IfOk r (IsStepOf ty d candidates effort dropped (fails query point))
fail_tells ty d candidates effort dropped query point (Ok step) is = fail_told ty d candidates effort dropped query point step is
fail_tells ty d candidates effort dropped query point (Err e) is = is

-- an end
spent_told : (ty : TypeForm) (d : DesignForm) (candidates : List Conjunct) (effort : ℕ) (dropped : List ℕ) (at : Place) (step : told.Step) → ((end : End) → end_said (spends at) ≡ Some end → IsEndStep ty d candidates effort dropped at end step) → IsStepOf ty d candidates effort dropped (spends at) step
spent_told ty d candidates effort dropped at Due is = (λ h. h, is _ refl)
spent_told ty d candidates effort dropped at Fault is = (λ h. h, is _ refl)
spent_told ty d candidates effort dropped at Wide is = is _ refl

pub spent_tells : {E : Type 0} (ty : TypeForm) (d : DesignForm) (candidates : List Conjunct) (effort : ℕ) (dropped : List ℕ) (at : Place) (r : Result told.Step E) → IfOk r (λ step. (end : End) → end_said (spends at) ≡ Some end → IsEndStep ty d candidates effort dropped at end step)
    → IfOk r (IsStepOf ty d candidates effort dropped (spends at))
spent_tells ty d candidates effort dropped at (Ok step) is = spent_told ty d candidates effort dropped at step is
spent_tells ty d candidates effort dropped at (Err e) is = is

crowd_told : (ty : TypeForm) (d : DesignForm) (candidates : List Conjunct) (effort : ℕ) (dropped : List ℕ) (at : Place) (plus minus rest : ℕ) (lits : List ℤ) (step : told.Step) → ((end : End) → end_said (crowds at plus minus rest lits) ≡ Some end → IsEndStep ty d candidates effort dropped at end step) → IsStepOf ty d candidates effort dropped (crowds at plus minus rest lits) step
crowd_told ty d candidates effort dropped at plus minus rest lits Due is = (λ h. h, is _ refl)
crowd_told ty d candidates effort dropped at plus minus rest lits Fault is = (λ h. h, is _ refl)
crowd_told ty d candidates effort dropped at plus minus rest lits Wide is = is _ refl

pub crowd_tells : {E : Type 0} (ty : TypeForm) (d : DesignForm) (candidates : List Conjunct) (effort : ℕ) (dropped : List ℕ) (at : Place) (plus minus rest : ℕ) (lits : List ℤ) (r : Result told.Step E) → IfOk r (λ step. (end : End) → end_said (crowds at plus minus rest lits) ≡ Some end → IsEndStep ty d candidates effort dropped at end step)
    → IfOk r (IsStepOf ty d candidates effort dropped (crowds at plus minus rest lits))
crowd_tells ty d candidates effort dropped at plus minus rest lits (Ok step) is = crowd_told ty d candidates effort dropped at plus minus rest lits step is
crowd_tells ty d candidates effort dropped at plus minus rest lits (Err e) is = is

width_told : (ty : TypeForm) (d : DesignForm) (candidates : List Conjunct) (effort : ℕ) (dropped : List ℕ) (at : Place) (left right : ℤ) (lits : List ℤ) (step : told.Step) → ((end : End) → end_said (widens at left right lits) ≡ Some end → IsEndStep ty d candidates effort dropped at end step) → IsStepOf ty d candidates effort dropped (widens at left right lits) step
width_told ty d candidates effort dropped at left right lits Due is = (λ h. h, is _ refl)
width_told ty d candidates effort dropped at left right lits Fault is = (λ h. h, is _ refl)
width_told ty d candidates effort dropped at left right lits Wide is = is _ refl

pub width_tells : {E : Type 0} (ty : TypeForm) (d : DesignForm) (candidates : List Conjunct) (effort : ℕ) (dropped : List ℕ) (at : Place) (left right : ℤ) (lits : List ℤ) (r : Result told.Step E) → IfOk r (λ step. (end : End) → end_said (widens at left right lits) ≡ Some end → IsEndStep ty d candidates effort dropped at end step)
    → IfOk r (IsStepOf ty d candidates effort dropped (widens at left right lits))
width_tells ty d candidates effort dropped at left right lits (Ok step) is = width_told ty d candidates effort dropped at left right lits step is
width_tells ty d candidates effort dropped at left right lits (Err e) is = is

at_own : {E : Type 0} (ty : TypeForm) (d : DesignForm) (candidates : List Conjunct) (effort : ℕ) (dropped : List ℕ) (at a : Place) (x : SaidForm) (r : Result told.Step E) → a ≡ at
    → IfOk r (λ step. (end : End) → end_said x ≡ Some end → IsEndStep ty d candidates effort dropped at end step) → IfOk r (λ step. (end : End) → end_said x ≡ Some end → IsEndStep ty d candidates effort dropped a end step)
at_own {E} ty d candidates effort dropped at a x r same is =
    let P : Place → Type 0 = λ p. IfOk r (λ step. (end : End) → end_said x ≡ Some end → IsEndStep ty d candidates effort dropped p end step) in subst P (sym same) is

-- the place of a line that tells an end
abbrev pub PlaceOf : SaidForm → Place → Type 0
PlaceOf (drops a p) at = ⊥
PlaceOf (fails q p) at = ⊥
PlaceOf (spends a) at = a ≡ at
PlaceOf (crowds a plus minus rest lits) at = a ≡ at
PlaceOf (widens a left right lits) at = a ≡ at
PlaceOf (is_long n) at = ⊥

pub end_tells : {E : Type 0} (ty : TypeForm) (d : DesignForm) (candidates : List Conjunct) (effort : ℕ) (dropped : List ℕ) (at : Place) (x : SaidForm) (r : Result told.Step E) → PlaceOf x at
    → IfOk r (λ step. (end : End) → end_said x ≡ Some end → IsEndStep ty d candidates effort dropped at end step) → IfOk r (IsStepOf ty d candidates effort dropped x)
end_tells ty d candidates effort dropped at (drops a p) r of is = absurd of
end_tells ty d candidates effort dropped at (fails q p) r of is = absurd of
end_tells ty d candidates effort dropped at (spends a) r of is =
    spent_tells ty d candidates effort dropped a r (at_own ty d candidates effort dropped at a (spends a) r of is)
end_tells ty d candidates effort dropped at (crowds a plus minus rest lits) r of is =
    crowd_tells ty d candidates effort dropped a plus minus rest lits r (at_own ty d candidates effort dropped at a (crowds a plus minus rest lits) r of is)
end_tells ty d candidates effort dropped at (widens a left right lits) r of is =
    width_tells ty d candidates effort dropped a left right lits r (at_own ty d candidates effort dropped at a (widens a left right lits) r of is)
end_tells ty d candidates effort dropped at (is_long n) r of is = absurd of
