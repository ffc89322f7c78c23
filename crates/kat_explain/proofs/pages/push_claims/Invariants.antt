use Rattle.std.proofs.Common.{◌≡◌, ◌++◌, length}
use Rattle.std.specs.List.{flat_map}
use Rattle.kat_design.specs.Designs.{design_form}
use Rattle.kat_explain.specs.Relating.{claim_text}
use Rattle.kat_type.specs.Types.{type_form}
use Rattle.kat_explain.proofs.pages.push_claims.Given as goal

abbrev pub invariant-conjuncts : goal.invariant-conjuncts
invariant-conjuncts l =
    l.into.items ++ flat_map (claim_text (type_form l.ty) (design_form l.design).components l.names) l.rest
    ≡ l.fn.into.items ++ flat_map (claim_text (type_form l.ty) (design_form l.design).components l.names) l.fn.conjuncts

abbrev pub decreases-conjuncts : goal.decreases-conjuncts
decreases-conjuncts l = length l.rest
