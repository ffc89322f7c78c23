-- What is kept at a leaf after an operation.
use Rattle.std.proofs.Common.{◌≡◌, ℕ, List, Option, Result, sym, subst}
use Rattle.std.specs.Prelude.{slice_get}
use Rattle.kat_design.specs.Designs.{ComponentForm, DesignForm}
use Rattle.kat_type.specs.Types.{OperationForm, TypeForm}
use Rattle.kat_type.specs.declared.types.Param.{Param}
use Rattle.kat_claims.specs.Effects.{leaf_after, leaves_of}
use Rattle.kat_symbols.specs.Readers.{Reader}
use Rattle.kat_claims.specs.States.{old_side}
use Rattle.kat_vc.specs.Steps.{value_after}
use Rattle.kat_symbols.specs.Views.{GivesSymbol}
use Rattle.kat_symbols.specs.declared.names.Instance.{Instance}
use Rattle.kat_symbols.specs.declared.names.Place.{Place}
use Rattle.kat_symbols.specs.declared.names.Place.TheVariants.{Leaf}
use Rattle.kat_symbols.specs.declared.symbols.Symbol.{Symbol}

pub value_is : {E : Type 0} (result : Result Symbol E) (left : Reader) (ty : TypeForm) (design : DesignForm) (n : ℕ) (op : OperationForm) (place : Place) (c l : ℕ) (at : Option Instance) (params : List Param) (components : List ComponentForm) (r : Reader)
    → place ≡ Leaf c l → params ≡ op.params → components ≡ design.components
    → GivesSymbol (leaf_after (leaves_of (old_side ty design) c at) params n c at (slice_get components c) l r) result left
    → GivesSymbol (value_after ty design n op place at r) result left
value_is {E = E} result left ty design n op place c l at params components r p q s was =
    subst (λ (x : Place). GivesSymbol {E = E} (value_after ty design n op x at r) result left) (sym p)
    (subst (λ (xs : List ComponentForm). GivesSymbol {E = E} (leaf_after (leaves_of (old_side ty design) c at) op.params n c at (slice_get xs c) l r) result left) s
    (subst (λ (ps : List Param). GivesSymbol {E = E} (leaf_after (leaves_of (old_side ty design) c at) ps n c at (slice_get components c) l r) result left) q was))
