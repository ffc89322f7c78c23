-- Used inside only.
-- What is known of a type, a design and a relation whose conditions are asked for.
use Rattle.std.specs.Prelude.{◌≡◌, ◌≤◌, List, All, length}
use Rattle.kat_design.specs.Designs.{DesignForm}
use Rattle.kat_design.specs.Sorted as designs
use Rattle.kat_design.specs.Sorted.{EachHas}
use Rattle.kat_relation.specs.Fits.{FitsConjunct}
use Rattle.kat_relation.specs.declared.relations.Conjunct.{Conjunct}
use Rattle.kat_type.specs.Fits as types
use Rattle.kat_type.specs.Signatures.{signature_of}
use Rattle.kat_type.specs.Types.{OperationForm, TypeForm}
use Rattle.kat_type.specs.Within.{IsWithinLimits}
use Rattle.kat_bounds.specs.Named.{IsNamed}

-- The type is well-sorted and within its limits, its names are names, and its ranks have at most three elements; the design
-- is well-sorted and has the type's signature; and each conjunct speaks of what both have.
pub record AreAccepted (ty : TypeForm) (design : DesignForm) (relation : List Conjunct) : Type 0 where
  pub sorted : types.IsWellSorted ty
  pub limits : IsWithinLimits ty
  pub named : IsNamed ty
  pub ranks : All (λ (o : OperationForm). length o.ranks ≤ 3) ty.ops
  pub right : designs.IsWellSorted design
  pub signature : design.sig ≡ signature_of ty
  pub conjuncts : EachHas (FitsConjunct ty design.components) relation
