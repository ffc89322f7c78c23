-- A line and what it is held as.
use Rattle.std.proofs.Common.{ℕ, List}
use Rattle.kat_design.specs.Designs.{DesignForm}
use Rattle.kat_form.specs.Readings.{encoding_of, numbers_of_facts}
use Rattle.kat_points.specs.Held.{IsHeldPoint}
use Rattle.kat_points.specs.Points.{PointForm}
use Rattle.kat_points.proofs.HeldPoints as points
use Rattle.kat_relation.specs.declared.relations.Conjunct.{Conjunct}
use Rattle.kat_said.specs.Sayings.IsHeldSaid.{a_drop, a_fail, itself}
use Rattle.kat_said.specs.declared.said.Place.{Place}
use Rattle.kat_said.specs.declared.said.Place.TheVariants.{Query}
use Rattle.kat_type.specs.Types.{TypeForm}
use Rattle.kat_block.specs.Alike.{HeldLinesAreAlike}
use Rattle.kat_block.specs.Blocks.{FailsAt, PassesAt, facts_under}

fails_held : (ty : TypeForm) (d : DesignForm) (candidates : List Conjunct) (dropped : List ℕ) (at : Place) (p held : PointForm) → IsHeldPoint p held → FailsAt ty d candidates dropped at p → FailsAt ty d candidates dropped at held
fails_held ty d candidates dropped at p held is f =
    let facts = facts_under ty d candidates dropped f.condition in
    record { condition = f.condition; has = f.has; decisive = (points.alike facts (encoding_of facts).senses (numbers_of_facts facts) p held is).1.0 f.decisive }

fails_back : (ty : TypeForm) (d : DesignForm) (candidates : List Conjunct) (dropped : List ℕ) (at : Place) (p held : PointForm) → IsHeldPoint p held → FailsAt ty d candidates dropped at held → FailsAt ty d candidates dropped at p
fails_back ty d candidates dropped at p held is f =
    let facts = facts_under ty d candidates dropped f.condition in
    record { condition = f.condition; has = f.has; decisive = (points.alike facts (encoding_of facts).senses (numbers_of_facts facts) p held is).1.1 f.decisive }

passes_held : (ty : TypeForm) (d : DesignForm) (candidates : List Conjunct) (dropped : List ℕ) (at : Place) (p held : PointForm) → IsHeldPoint p held → PassesAt ty d candidates dropped at p → PassesAt ty d candidates dropped at held
passes_held ty d candidates dropped at p held is f =
    let facts = facts_under ty d candidates dropped f.condition in
    record { condition = f.condition; has = f.has; wide = (points.alike facts (encoding_of facts).senses (numbers_of_facts facts) p held is).0.0 f.wide }

passes_back : (ty : TypeForm) (d : DesignForm) (candidates : List Conjunct) (dropped : List ℕ) (at : Place) (p held : PointForm) → IsHeldPoint p held → PassesAt ty d candidates dropped at held → PassesAt ty d candidates dropped at p
passes_back ty d candidates dropped at p held is f =
    let facts = facts_under ty d candidates dropped f.condition in
    record { condition = f.condition; has = f.has; wide = (points.alike facts (encoding_of facts).senses (numbers_of_facts facts) p held is).0.1 f.wide }

pub alike : HeldLinesAreAlike
alike ty d candidates effort dropped said held (a_drop {at = at} {p = p} {held = h} is) = (
  (λ w. (w.0, passes_held ty d candidates dropped at p h is w.1), λ w. (w.0, passes_back ty d candidates dropped at p h is w.1)),
  (λ due. (due.0, fails_held ty d candidates dropped at p h is due.1), λ due. (due.0, fails_back ty d candidates dropped at p h is due.1)),
)
alike ty d candidates effort dropped said held (a_fail {q = q} {p = p} {held = h} is) = (
  (λ w. passes_held ty d candidates dropped (Query q) p h is w, λ w. passes_back ty d candidates dropped (Query q) p h is w),
  (λ due. fails_held ty d candidates dropped (Query q) p h is due, λ due. fails_back ty d candidates dropped (Query q) p h is due),
)
alike ty d candidates effort dropped said held itself = ((λ w. w, λ w. w), (λ due. due, λ due. due))
