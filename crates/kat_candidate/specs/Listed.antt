-- Used inside only.
-- The candidates form by form, each form in its order.
use Rattle.std.specs.Prelude.{ℕ, max, List, ◌++◌, length}
use Rattle.kat_candidate.specs.Forms.{SidesForm, at_leasts_of, each_of, equals_of, first_bound_of, matches_of, query_of, total_of}
use Rattle.kat_candidate.specs.Parts.{constants_of, leaves_of, numbers_from, rank_length}
use Rattle.kat_candidate.specs.declared.parts.Constant.{Constant}
use Rattle.kat_design.specs.Designs.{DesignForm}
use Rattle.kat_relation.specs.declared.relations.Conjunct.{Conjunct}
use Rattle.kat_relation.specs.declared.relations.LeafRef.{LeafRef}
use Rattle.kat_type.specs.Types.{TypeForm}

-- all leaves of a design, the positions of a rank, and the numbers of positions and components
abbrev pub all_leaves : DesignForm → List LeafRef
all_leaves design = leaves_of 0 design.components

abbrev pub positions_of : TypeForm → List ℕ
positions_of ty = numbers_from 0 (rank_length ty.ops)

abbrev pub places_of : SidesForm → List ℕ
places_of sides = numbers_from 0 (max (rank_length sides.ty.ops) (length sides.design.components))

abbrev pub all_constants : TypeForm → List Constant
all_constants ty = constants_of ty.ops (positions_of ty)

-- the candidates of each form
abbrev pub queries : SidesForm → List Conjunct
queries sides = each_of (query_of sides) (numbers_from 0 (length sides.ty.queries))

abbrev pub equals : SidesForm → List Conjunct
equals sides = each_of (equals_of sides (all_leaves sides.design)) (numbers_from 0 (length sides.ty.fields))

abbrev pub bounds : SidesForm → List Conjunct
bounds sides = each_of (first_bound_of sides (all_leaves sides.design) (places_of sides) (positions_of sides.ty)) (all_leaves sides.design)

abbrev pub at_leasts : SidesForm → List Conjunct
at_leasts sides = each_of (at_leasts_of sides (all_constants sides.ty)) (all_leaves sides.design)

abbrev pub matches : SidesForm → List Conjunct
matches sides = each_of (matches_of sides (all_constants sides.ty) (all_leaves sides.design) (positions_of sides.ty)) (all_leaves sides.design)

abbrev pub totals : SidesForm → List Conjunct
totals sides = each_of (total_of sides) (numbers_from 0 (length sides.design.components))

abbrev pub candidates_of : SidesForm → List Conjunct
candidates_of sides = queries sides ++ equals sides ++ bounds sides ++ at_leasts sides ++ matches sides ++ totals sides
